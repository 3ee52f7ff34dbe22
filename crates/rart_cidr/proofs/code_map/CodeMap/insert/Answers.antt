use Rattle.std.proofs.Common.{◌≡◌, ◌+◌, ◌<◌, ◌≤◌, ◌==◌, ◌||◌, true, false, Some, [], ◌∷◌, length, slice_get, insert}
use Rattle.std.proofs.Common.{set, suc, vec_len, vec_capacity, ap, arith, subst, sym, ◌∙◌}
use Rattle.std.proofs.lemmas.Option.{slice_get_read}
use Rattle.rart_keys.specs.SortedMap.{lookup, put}
use Rattle.rart_parts.specs.declared.error.TreeError.TheVariants.{Memory}
use Rattle.rart_trie.specs.edits.InsertAllocations.{has_free_slot}
use Rattle.rart_trie.specs.shapes.Shape.{capacity_of}
use Rattle.rart.specs.Refusals.{MayRefuseInsert}
use Rattle.rart_cidr.specs.CodeSets.{IsPacked, has_code, rank_of, targets_by_code}
use Rattle.rart_cidr.proofs.routes.CodeMapLemmas.{absent-code, few-pairs, found-code, insert-packed, put-new}
use Rattle.rart_cidr.proofs.routes.CodeMapLemmas.{put-stored, rank-below, rank-in, refuses-memory}
use Rattle.rart_cidr.proofs.code_map.CodeMap.insert.Goals as goal

pub index_mut-requires : goal.index_mut-requires
index_mut-requires g c =
    let words = c.self.inside.codes.words in let targets = c.self.inside.targets.items in
    let code = c.args.code in let count = c.self.invariant.count in
    let small : code < 256 = omega (arith, c.ranges.code.fits) in
    let bit : has_code words code ≡ true = ap (has_code words) (sym c.from-position.ensures) ∙ sym c.check.ensures
    ∙ c.if-check.true in
    let below = rank-below words targets code small count bit in
    let within : c.rank-at.result < vec_len c.self.inside.targets
    = omega (arith, below, c.rank-at.ensures, c.self.inside.targets.ok.0) in
    within

pub returns-then-check : goal.returns-then-check
returns-then-check g c =
    let words = c.self.inside.codes.words in let targets = c.self.inside.targets.items in
    let code = c.args.code in let count = c.self.invariant.count in
    let small : code < 256 = omega (arith, c.ranges.code.fits) in
    let bit : has_code words code ≡ true = ap (has_code words) (sym c.from-position.ensures) ∙ sym c.check.ensures
    ∙ c.if-check.true in
    let below = rank-below words targets code small count bit in
    let within : c.rank-at.result < vec_len c.self.inside.targets
    = omega (arith, below, c.rank-at.ensures, c.self.inside.targets.ok.0) in
    let few = few-pairs words targets count in let seen = ap length c.self.view_is in (
      sym (ap (lookup (code ∷ [])) (sym c.self.view_is) ∙ found-code words targets code small count bit
          ∙ ap (slice_get targets) (sym c.rank-at.ensures)
          ∙ slice_get_read targets (vec_len c.self.inside.targets) c.rank-at.result c.index_mut.result.now
          c.self.inside.targets.ok.0 within c.index_mut.ensures.value ∙ ap Some (sym c.replace.ensures.value)),
      λ e n. omega (arith, e, few, seen),
      (λ i. targets_by_code words (set targets (c.rank-at.ensures i) (c.replace.ensures.after i)))
          ∙ put-stored words targets code small count c.args.target bit
          ∙ ap (put (code ∷ []) c.args.target) c.self.view_is,
    )

pub insert_at-requires : goal.insert_at-requires
insert_at-requires g c =
    let words = c.self.inside.codes.words in let targets = c.self.inside.targets.items in
    let code = c.args.code in let count = c.self.invariant.count in
    let small : code < 256 = omega (arith, c.ranges.code.fits) in
    let bit : has_code words code ≡ false = ap (has_code words) (sym c.from-position.ensures) ∙ sym c.check.ensures
    ∙ c.if-check.false in
    let most = rank-in words targets code small count bit in
    let low = most.0 in let high = most.1 in let len = c.self.inside.targets.ok.0 in
    record {
      within = omega (arith, low, len, c.rank-at.ensures);
      few = omega (arith, high, len);
      least = c.self.invariant.least;
      room = subst (λ n. capacity_of n ≤ vec_capacity c.self.inside.targets) (sym len) c.self.invariant.room;
    }

pub invariant_of-self-in-Ok : goal.invariant_of-self-in-Ok
invariant_of-self-in-Ok g c =
    let words = c.self.inside.codes.words in let targets = c.self.inside.targets.items in
    let code = c.args.code in let count = c.self.invariant.count in
    let small : code < 256 = omega (arith, c.ranges.code.fits) in
    let bit : has_code words code ≡ false = ap (has_code words) (sym c.from-position.ensures) ∙ sym c.check.ensures
    ∙ c.if-check.false in
    let new = c.set.new.self.words in let after = c.insert_at.new.targets in
    let items : after.items ≡ insert targets (rank_of words code) c.args.target
    = c.in-Ok.ensures.inserted ∙ ap (λ r. insert targets r c.args.target) c.rank-at.ensures in
    let least = c.self.invariant.least in let grows = c.insert_at.ensures.capacity in
    let next : vec_len c.self.inside.targets + 1 ≡ suc (length targets) = omega (arith, c.self.inside.targets.ok.0) in
    subst (λ s. IsPacked new s (vec_capacity after)) (sym items)
    (insert-packed words targets code small count new
    (λ k s. c.set.ensures k s ∙ ap (λ z. (k == z) || has_code words k) c.from-position.ensures) bit c.args.target
    (vec_capacity after) (omega (arith, least, grows))
    (subst (λ n. capacity_of n ≤ vec_capacity after) next c.in-Ok.ensures.room))

pub returns-in-Ok : goal.returns-in-Ok
returns-in-Ok g c =
    let words = c.self.inside.codes.words in let targets = c.self.inside.targets.items in
    let code = c.args.code in let count = c.self.invariant.count in
    let small : code < 256 = omega (arith, c.ranges.code.fits) in
    let bit : has_code words code ≡ false = ap (has_code words) (sym c.from-position.ensures) ∙ sym c.check.ensures
    ∙ c.if-check.false in
    let new = c.set.new.self.words in let few = few-pairs words targets count in
    let seen = ap length c.self.view_is in (
      sym (ap (lookup (code ∷ [])) (sym c.self.view_is) ∙ absent-code words targets code small count bit),
      λ e n. omega (arith, e, few, seen),
      ap (targets_by_code new) (c.in-Ok.ensures.inserted
          ∙ ap (λ r. insert targets r c.args.target) c.rank-at.ensures)
          ∙ put-new words targets code small count new
          (λ k s. c.set.ensures k s ∙ ap (λ z. (k == z) || has_code words k) c.from-position.ensures) bit c.args.target
          ∙ ap (put (code ∷ []) c.args.target) c.self.view_is,
    )

pub invariant_of-self-in-Err : goal.invariant_of-self-in-Err
invariant_of-self-in-Err g c =
    let words = c.self.inside.codes.words in let after = c.insert_at.new.targets in
    let least = c.self.invariant.least in let room = c.self.invariant.room in
    let grows = c.insert_at.ensures.capacity in
    subst (λ s. IsPacked words s (vec_capacity after)) (sym c.in-Err.ensures.unchanged) (record {
      count = c.self.invariant.count;
      least = omega (arith, least, grows);
      room = omega (arith, room, grows);
    })

pub returns-in-Err : goal.returns-in-Err
returns-in-Err g c =
    let words = c.self.inside.codes.words in let targets = c.self.inside.targets.items in
    let code = c.args.code in let count = c.self.invariant.count in
    let small : code < 256 = omega (arith, c.ranges.code.fits) in
    let bit : has_code words code ≡ false = ap (has_code words) (sym c.from-position.ensures) ∙ sym c.check.ensures
    ∙ c.if-check.false in
    let free = c.in-Err.ensures.allocates in let len = c.self.inside.targets.ok.0 in let some = free.0 in (
      c.in-Err.ensures.returned,
      subst (λ m. MayRefuseInsert m (code ∷ []) Memory) c.self.view_is
          (refuses-memory words targets code small count bit (omega (arith, some, len))
          (ap has_free_slot (sym len) ∙ free.1)),
      ap (targets_by_code words) c.in-Err.ensures.unchanged ∙ c.self.view_is,
    )
