use Rattle.std.proofs.Common.{◌≡◌, ◌∙◌, Option, ap, sym, subst, refl, arith, is_some, nat_eq}
use Rattle.std.specs.Fn.{FnOnceReturnsAtMut}
use Rattle.rart_keys.specs.SortedMap.{lookup}
use Rattle.rart_trie.specs.tries.Tree.{tree_pairs}
use Rattle.rart_trie.specs.edits.Slots.{slot_of}
use Rattle.rart.specs.MapAndShape.{MapAndShape}
use Rattle.rart.specs.declared.tree.TheConstants.{MAX_PAIRS}
use Rattle.rart.proofs.trees.UpdateLemmas.{ends-in}
use Rattle.rart.proofs.tree.AdaptiveRadixTree.update_returning.Goals as goal
use Rattle.rart.proofs.tree.AdaptiveRadixTree.update_returning.Goals.{in-Ok-New, in-Ok-Removed, in-Ok+in-Absent-1}
use Rattle.rart.proofs.tree.AdaptiveRadixTree.update_returning.Goals.{in-Err-1}

pub update-outcome-requires-clause-occupancy : goal.update-outcome-requires-clause-occupancy
update-outcome-requires-clause-occupancy g c = λ r x w h.
    let at : lookup (g.K.KeyTrait.bytes c.args.key.now) c.args.self.now.pairs
    ≡ lookup c.as_ref-bytes.result.now (tree_pairs c.self.inside.root)
    = rw (← c.self.view_is, c.as_ref-bytes.ensures) refl in
    c.requires.occupancy r x w (subst (λ (o : Option g.row.V.Denot). FnOnceReturnsAtMut g.F.FnOnce c.args.f (slot_of o)
    (r, x) (slot_of w)) (sym at) h) ∙ ap is_some at

pub returns-clause-update : goal.returns-clause-update
returns-clause-update g c =
    let at : lookup (g.K.KeyTrait.bytes c.args.key.now) c.args.self.now.pairs
    ≡ lookup c.as_ref-bytes.result.now (tree_pairs c.self.inside.root)
    = rw (← c.self.view_is, c.as_ref-bytes.ensures) refl in
    let e = c.update-outcome.ensures.update in
    let shown = subst (λ (o : Option g.row.V.Denot). FnOnceReturnsAtMut g.F.FnOnce c.args.f (slot_of o)
    (e.0, c.update-outcome.result.1) (slot_of e.1)) (sym at) e.2 in
    let stays : is_some e.1 ≡ is_some (lookup c.as_ref-bytes.result.now (tree_pairs c.self.inside.root))
    = c.requires.occupancy e.0 c.update-outcome.result.1 e.1 shown ∙ ap is_some at in
    let pairs : c.match-outcome.self.pairs ≡ tree_pairs c.update-outcome.new.root = elim c.match-outcome.branch [
      | in-Ok-New w ↦ cc (ap (λ (m : MapAndShape g.row.V.Denot). m.pairs) w.self-is)
      | in-Ok-Removed w ↦ cc (ap (λ (m : MapAndShape g.row.V.Denot). m.pairs) w.self-is)
      | in-Ok+in-Absent-1 w ↦ cc (ap (λ (m : MapAndShape g.row.V.Denot). m.pairs) w.self-is)
      | in-Err-1 w ↦ cc (ap (λ (m : MapAndShape g.row.V.Denot). m.pairs) w.self-is)
    ] in
    let ends = ends-in (nat_eq c.self.inside.len MAX_PAIRS) c.as_ref-bytes.result.now e.0 e.1
    (tree_pairs c.self.inside.root) c.update-outcome.result.0 (tree_pairs c.update-outcome.new.root)
    (ap (λ n. nat_eq n MAX_PAIRS) c.self.invariant.counted)
    (omega (arith, c.self.invariant.counted, c.self.invariant.few)) stays
    e.3 in
    (e.0, e.1, shown, rw (pairs, ← c.self.view_is, ← c.as_ref-bytes.ensures) ends)
