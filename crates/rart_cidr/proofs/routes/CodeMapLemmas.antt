-- A map from codes, by the words of its set and its targets: what its calls return, and its pairs after edits.
use Rattle.std.proofs.Common.{◌≡◌, ◌≢◌, ℕ, zero, suc, ◌+◌, ◌-◌, ◌<◌, ◌≤◌, ◌==◌, ◌||◌, ◌&&◌, ⊎_elim, not, Bool, true}
use Rattle.std.proofs.Common.{false, List, [], ◌∷◌, length, set, insert, remove, slice_get, refl, sym, ap, ◌∙◌, arith}
use Rattle.std.proofs.Common.{Some, None}
use Rattle.std.proofs.Math.Dec.{ltb}
use Rattle.std.proofs.Math.ListN.{length-set}
use Rattle.std.proofs.lemmas.Bool.{ltb-true}
use Rattle.rart_keys.specs.SortedMap.{IsAscending, keys_of, lookup, put, without}
use Rattle.rart_keys.proofs.strings.ByteOrder.{eq-no, eq-yes}
use Rattle.rart_parts.specs.Bits.{members_from}
use Rattle.rart_parts.specs.declared.error.TreeError.TheVariants.{Memory}
use Rattle.rart_parts.proofs.sets.Members.{length-members_from, members_from-none}
use Rattle.rart_trie.specs.edits.InsertAllocations.{has_free_slot, insert_allocates}
use Rattle.rart_trie.specs.shapes.Shape.{capacity_of}
use Rattle.rart.specs.Refusals.{MayRefuseInsert}
use Rattle.rart_cidr.specs.Bits.{code}
use Rattle.rart_cidr.specs.CodeSets.{IsLongestCode, IsPacked, codes_end, has_code, pairs_from, rank_of}
use Rattle.rart_cidr.specs.CodeSets.{targets_by_code}
use Rattle.rart_cidr.specs.Routes.{IsLongestIn}
use Rattle.rart_cidr.proofs.networks.BitLemmas.{holds_at, holds_below}
use Rattle.rart_cidr.proofs.routes.CodeKeyLemmas.{allocates, keys-pairs, not-a-key, once}
use Rattle.rart_cidr.proofs.routes.PackedLemmas.{count-more, either, length-pairs, pairs-ascend, rank-at_most}
use Rattle.rart_cidr.proofs.routes.PackedLemmas.{rank-within, target-absent, target-found, target-inserted}
use Rattle.rart_cidr.proofs.routes.PackedLemmas.{target-removed, target-set}

at-end : codes_end ≡ 256
unfolding codes_end
at-end = refl

-- the codes from c on
rest : (c : ℕ) → c < 256 → codes_end ≡ c + suc (255 - c)
rest c h = let e = at-end in omega (arith, e, h)

-- ---- capacities
-- a capacity for one target more has room for one less
less-room : (n : ℕ) → n < 256 → capacity_of n ≤ capacity_of (suc n)
unfolding holds_below
less-room n h =
    let t = ltb-true _ _ (holds_at (λ k. ltb (capacity_of k) (suc (capacity_of (suc k)))) 256 n refl h) in
    omega (arith, t)

-- a capacity for n targets has room for n
enough-room : (n : ℕ) → n < 256 → n < capacity_of (suc n)
unfolding holds_below
enough-room n h = ltb-true _ _ (holds_at (λ k. ltb k (capacity_of (suc k))) 256 n refl h)

module _ {T : Type 0} where
  -- ---- lengths
  length-insert : (xs : List T) (i : ℕ) (x : T) → length (insert xs i x) ≡ suc (length xs)
  length-insert xs zero x = refl
  length-insert [] (suc i) x = refl
  length-insert (y ∷ ys) (suc i) x = ap suc (length-insert ys i x)

  length-remove : (xs : List T) (i : ℕ) → i < length xs → suc (length (remove xs i)) ≡ length xs
  length-remove [] i h = absurd (omega (arith, h))
  length-remove (y ∷ ys) zero h = refl
  length-remove (y ∷ ys) (suc i) h = ap suc (length-remove ys i (omega (arith, h)))

  nothing : (es : List (List ℕ × T)) → length es ≡ 0 → es ≡ []
  nothing [] h = refl
  nothing (e ∷ es) h = absurd (omega (arith, h))

  -- ---- all pairs
  module _ (words : List ℕ) (targets : List T) (count : length targets ≡ rank_of words codes_end) where
    pub all-length : length (targets_by_code words targets) ≡ length targets
    all-length = length-pairs (has_code words) 0 codes_end targets count

    pub few-pairs : length (targets_by_code words targets) ≤ 256
    few-pairs =
        let all = all-length in
        let most = length-members_from (has_code words) 0 codes_end in
        let e = at-end in
        omega (arith, all, count, most, e)

    pub longest-target : (x most b : ℕ) (t : T) → code x b < 256 → IsLongestCode words x most (Some b)
        → slice_get targets (rank_of words (code x b)) ≡ Some t
        → IsLongestIn (targets_by_code words targets) x most (Some (b, t))
    longest-target x most b t h f at = (
      f.0,
      target-found (has_code words) (code x b) (code x b) 0 codes_end targets (omega arith)
          (let e = at-end in omega (arith, e, h)) f.1 count ∙ at,
      λ r l m. target-absent (has_code words) (code x r) 0 codes_end targets (f.2 r l m),
    )

  pub all-ascend : (words : List ℕ) (targets : List T) → IsAscending (targets_by_code words targets)
  all-ascend words targets = pairs-ascend (has_code words) 0 codes_end targets

  pub no-longest : (words : List ℕ) (targets : List T) (x most : ℕ) → IsLongestCode words x most None
      → IsLongestIn (targets_by_code words targets) x most None
  no-longest words targets x most f = λ r h. target-absent (has_code words) (code x r) 0 codes_end targets (f r h)

  -- a set without codes, and no targets
  pub empty-packed : (words : List ℕ) (targets : List T) (capacity : ℕ) → targets ≡ [] → 4 ≤ capacity
      → ((k : ℕ) → k < 256 → has_code words k ≡ false) → IsPacked words targets capacity
  empty-packed words targets capacity e h none =
      let zero-length : length targets ≡ 0 = ap length e in record {
        count = zero-length ∙ sym (ap length (members_from-none (has_code words) 0 codes_end
            (λ k l m. none k (let s = at-end in omega (arith, s, m)))));
        least = h;
        room = rw zero-length (omega arith);
      }

  pub empty-pairs : (words : List ℕ) (targets : List T) → targets ≡ []
      → ((k : ℕ) → k < 256 → has_code words k ≡ false) → targets_by_code words targets ≡ []
  empty-pairs words targets e none = nothing (targets_by_code words targets)
      (all-length words targets ((empty-packed words targets 4 e (omega arith) none).count) ∙ ap length e)

  -- ---- one code
  module _ (words : List ℕ) (targets : List T) (c : ℕ) (small : c < 256)
      (count : length targets ≡ rank_of words codes_end) where
    split : length targets ≡ length (members_from (has_code words) 0 (c + suc (255 - c)))
    split = count ∙ ap (λ z. length (members_from (has_code words) 0 z)) (rest c small)

    pub rank-below : has_code words c ≡ true → rank_of words c < length targets
    rank-below h =
        let r = rank-within (has_code words) c (255 - c) h in
        let s = split in omega (arith, r, s)

    pub rank-in : has_code words c ≡ false → (rank_of words c ≤ length targets) × (length targets ≤ 255)
    rank-in h =
        let r = rank-at_most (has_code words) c (255 - c) h in
        let low = r.0 in
        let high = r.1 in
        let s = split in (omega (arith, low, s), omega (arith, high, s, small))

    pub found-code : has_code words c ≡ true
        → lookup (c ∷ []) (targets_by_code words targets) ≡ slice_get targets (rank_of words c)
    found-code h = target-found (has_code words) c c 0 codes_end targets (omega arith)
        (let e = at-end in omega (arith, e, small)) h count

    pub absent-code : has_code words c ≡ false → lookup (c ∷ []) (targets_by_code words targets) ≡ None
    absent-code h = target-absent (has_code words) c 0 codes_end targets h

    pub stored-code : lookup (c ∷ []) (targets_by_code words targets) ≢ None → has_code words c ≡ true
    stored-code n = ⊎_elim (λ y. y) (λ m. absurd (n (absent-code m))) (either (has_code words c))

    -- another target at a stored code
    pub put-stored : (w : T) → has_code words c ≡ true → targets_by_code words (set targets (rank_of words c) w)
        ≡ put (c ∷ []) w (targets_by_code words targets)
    put-stored w h = sym (
        ap (λ z. put (c ∷ []) w (pairs_from (has_code words) 0 z targets)) (rest c small)
        ∙ target-set (has_code words) c (255 - c) targets split w h
        ∙ sym (ap (λ z. pairs_from (has_code words) 0 z (set targets (rank_of words c) w)) (rest c small))
        )

    module _ (new : List ℕ) where
      -- the set with the code
      module _ (added : (k : ℕ) → k < 256 → has_code new k ≡ ((k == c) || has_code words k))
          (absent : has_code words c ≡ false) where
        with-here : has_code new c ≡ true
        with-here = added c small ∙ rw (eq-yes c c refl) refl

        with-others : (k : ℕ) → k < c + suc (255 - c) → (k ≡ c → ⊥) → has_code new k ≡ has_code words k
        with-others k h n = added k (omega (arith, h, small)) ∙ rw (eq-no k c n) refl

        pub put-new : (w : T) → targets_by_code new (insert targets (rank_of words c) w)
            ≡ put (c ∷ []) w (targets_by_code words targets)
        put-new w = sym (
            ap (λ z. put (c ∷ []) w (pairs_from (has_code words) 0 z targets)) (rest c small)
            ∙ target-inserted (has_code words) c (255 - c) targets split (has_code new) w with-others absent with-here
            ∙ sym (ap (λ z. pairs_from (has_code new) 0 z (insert targets (rank_of words c) w)) (rest c small))
            )

        pub insert-packed : (w : T) (capacity : ℕ) → 4 ≤ capacity → capacity_of (suc (length targets)) ≤ capacity
            → IsPacked new (insert targets (rank_of words c) w) capacity
        insert-packed w capacity least room =
            let more : length (insert targets (rank_of words c) w) ≡ suc (length targets)
            = length-insert targets (rank_of words c) w in
            record {
              count = more ∙ ap suc split
                  ∙ sym (count-more (has_code words) (has_code new) c (255 - c) with-others absent with-here)
                  ∙ sym (ap (λ z. length (members_from (has_code new) 0 z)) (rest c small));
              least = least;
              room = rw more room;
            }

      -- the set without the code
      module _ (cleared : (k : ℕ) → k < 256 → has_code new k ≡ (not (k == c) && has_code words k))
          (stored : has_code words c ≡ true) where
        gone-here : has_code new c ≡ false
        gone-here = cleared c small ∙ rw (eq-yes c c refl) refl

        others-left : (k : ℕ) → k < c + suc (255 - c) → (k ≡ c → ⊥) → has_code new k ≡ has_code words k
        others-left k h n = cleared k (omega (arith, h, small)) ∙ rw (eq-no k c n) refl

        pub without-stored : targets_by_code new (remove targets (rank_of words c))
            ≡ without (c ∷ []) (targets_by_code words targets)
        without-stored = sym (
            ap (λ z. without (c ∷ []) (pairs_from (has_code words) 0 z targets)) (rest c small)
            ∙ target-removed (has_code words) c (255 - c) targets split (has_code new) others-left stored gone-here
            ∙ sym (ap (λ z. pairs_from (has_code new) 0 z (remove targets (rank_of words c))) (rest c small))
            )

        pub remove-packed : (capacity : ℕ) → IsPacked words targets capacity
            → IsPacked new (remove targets (rank_of words c)) capacity
        remove-packed capacity p =
            let less = length-remove targets (rank_of words c) (rank-below stored) in
            let back = count-more (has_code new) (has_code words) c (255 - c)
            (λ k h n. sym (others-left k h n)) gone-here stored in
            let s = split in
            let here : rank_of new codes_end ≡ length (members_from (has_code new) 0 (c + suc (255 - c)))
            = ap (λ z. length (members_from (has_code new) 0 z)) (rest c small) in
            let most = rank-at_most (has_code new) c (255 - c) gone-here in
            let few = most.1 in
            let room : capacity_of (suc (length (remove targets (rank_of words c)))) ≤ capacity = rw less p.room in
            let step = less-room (length (remove targets (rank_of words c)))
            (omega (arith, less, back, s, few, small)) in
            record {
              count = omega (arith, less, back, s, here);
              least = p.least;
              room = omega (arith, room, step);
            }

    -- where an insertion of a new code may fail
    pub refuses-memory : has_code words c ≡ false → 0 < length targets → has_free_slot (length targets) ≡ false
        → MayRefuseInsert (targets_by_code words targets) (c ∷ []) Memory
    refuses-memory absent some full =
        let most = rank-in absent in
        let few = most.1 in
        let all = all-length words targets count in
        let codes : List ℕ = members_from (has_code words) 0 codes_end in (
          absent-code absent,
          omega (arith, few, all),
          ap (λ z. insert_allocates z (c ∷ [])) (keys-pairs (has_code words) 0 codes_end targets count)
              ∙ allocates codes c (once (has_code words) 0 codes_end) (not-a-key (has_code words) c 0 codes_end absent)
              (omega (arith, some, count)) (ap has_free_slot (sym count) ∙ full),
        )
