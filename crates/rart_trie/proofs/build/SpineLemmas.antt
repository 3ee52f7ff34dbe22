-- The unfinished nodes of a tree that is built from ascending keys: what finishing one and starting one keeps.
use Rattle.std.proofs.Common.{◌≡◌, ℕ, ◌+◌, ◌-◌, ◌<◌, ◌≤◌, inl, inr, ⊎_elim, zero, suc, List, [], ◌∷◌, ◌++◌, length}
use Rattle.std.proofs.Common.{length-append, take, drop, get_or, refl, arith, sym, ap, ap₂, ◌∙◌, Option, Some, None}
use Rattle.std.proofs.Common.{subst}
use Rattle.std.specs.Prelude.{slice_index, reverse}
use Rattle.std.proofs.Math.Seq.{take-add, take-length}
use Rattle.std.proofs.lemmas.List.{append_assoc, append-nil, drop-append-le, drop_all, get_or-drop, get_or-take}
use Rattle.std.proofs.lemmas.List.{length-drop, length-take-le, map-append, reverse-append, take-append-le}
use Rattle.rart_keys.proofs.strings.ByteOrder.{is_equal, is_greater, order}
use Rattle.rart_keys.specs.ByteStrings.{IsLess}
use Rattle.rart_trie.specs.build.Spine.{EndsBelow, IsClosed, IsOpen, IsReached, IsShallow, IsSpine, edge_entries}
use Rattle.rart_trie.specs.build.Spine.{frame_pairs, spine_pairs}
use Rattle.rart_trie.specs.declared.node.edits.builder.Frame.{Frame}
use Rattle.rart_trie.specs.shapes.Shape.{capacity_of}
use Rattle.rart_trie.specs.tries.PrefixLaws.{prefix-append, prefix-twice}
use Rattle.rart_trie.specs.tries.Trie.{Trie, node, Children, no_children, pairs_of, children_pairs}
use Rattle.rart_trie.specs.tries.Trie.{own_pair, with_prefix, prefix_of, StartsWith, HasTwoChildren, IsCanonical}
use Rattle.rart_trie.specs.tries.Trie.{AreCanonical}
use Rattle.rart_trie.specs.tries.TrieCode.{as_children}
use Rattle.rart_trie.proofs.storages.ChildLemmas.{edges_of-length}

-- the byte at a depth
byte-of : (d : ℕ) (k : List ℕ) → slice_index (drop d k) 0 ≡ slice_index k d
byte-of d k = let e : d + 0 ≡ d = omega arith in get_or-drop d k 0 0 ∙ ap (λ i. get_or k i 0) e

-- where two ascending keys part, the second goes on, by a greater byte
pub parted : (m : ℕ) (k n : List ℕ) → IsLess k n → take m k ≡ take m n → m ≤ length k → m ≤ length n
    → (m < length k → m < length n → slice_index k m ≡ slice_index n m → ⊥)
    → (m < length n) × (m < length k → slice_index k m < slice_index n m)
parted zero [] [] b e l r d = absurd (cc)
parted zero [] (y ∷ n) b e l r d = (omega arith, λ h. absurd (omega (arith, h)))
parted zero (x ∷ k) [] b e l r d = absurd (cc)
parted zero (x ∷ k) (y ∷ n) b e l r d = (
  omega arith,
  λ h. ⊎_elim (λ s. s) (⊎_elim (λ s. absurd (d (omega arith) (omega arith) s))
      (λ s. let f = rw (is_greater x y s) at b in absurd (cc))) (order x y),
)
parted (suc m) [] n b e l r d = absurd (omega (arith, l))
parted (suc m) (x ∷ k) [] b e l r d = absurd (omega (arith, r))
parted (suc m) (x ∷ k) (y ∷ n) b e l r d = let s : x ≡ y = cc in let t : take m k ≡ take m n = cc in
    let q = parted m k n (rw (is_equal x y s) at b) t (omega (arith, l)) (omega (arith, r))
    (λ g h i. d (omega (arith, g)) (omega (arith, h)) i) in
    (omega (arith, q.0), λ h. q.1 (omega (arith, h)))

-- keys that agree up to a depth agree before it
take-sooner : (e d : ℕ) (k n : List ℕ) → e ≤ d → take d k ≡ take d n → take e k ≡ take e n
take-sooner zero d k n l s = refl
take-sooner (suc e) zero k n l s = absurd (omega (arith, l))
take-sooner (suc e) (suc d) [] [] l s = refl
take-sooner (suc e) (suc d) [] (y ∷ n) l s = absurd (omega (arith, ap length s))
take-sooner (suc e) (suc d) (x ∷ k) [] l s = absurd (omega (arith, ap length s))
take-sooner (suc e) (suc d) (x ∷ k) (y ∷ n) l s = let h : x ≡ y = cc in let t : take d k ≡ take d n = cc in
    ap₂ ◌∷◌ h (take-sooner e d k n (omega (arith, l)) t)

same-byte : (e d : ℕ) (k n : List ℕ) → e < d → take d k ≡ take d n → slice_index k e ≡ slice_index n e
same-byte e d k n l s = sym (get_or-take d k e 0 l) ∙ ap (λ z. get_or z e 0) s ∙ get_or-take d n e 0 l

starts-itself : (p : List ℕ) → 0 < length p → StartsWith (slice_index p 0) p
starts-itself [] h = absurd (omega arith)
starts-itself (x ∷ p) h = refl

-- the last is the first of the reversed list
pub reversed-last : {A : Type 0} (xs ys : List A) (x : A) → ys ≡ xs ++ x ∷ [] → reverse ys ≡ x ∷ reverse xs
reversed-last xs ys x e = ap reverse e ∙ reverse-append xs (x ∷ [])

module _ {V : Type 0} where
  ends-more : (b c : ℕ) (t : Trie V) (es : List (ℕ × Trie V)) → b < c → EndsBelow b es → EndsBelow c (es ++ (b, t) ∷ [])
  ends-more b c t [] l h = (l, tt)
  ends-more b c t (e ∷ es) l h = (omega (arith, h.0, l), ends-more b c t es l h.1)

  canonical-more : (low b : ℕ) (t : Trie V) (es : List (ℕ × Trie V)) → low ≤ b → EndsBelow b es
      → StartsWith b (prefix_of t) → IsCanonical t → AreCanonical low (as_children es)
      → AreCanonical low (as_children (es ++ (b, t) ∷ []))
  canonical-more low b t [] l h s c w = (l, s, c, tt)
  canonical-more low b t (e ∷ es) l h s c w
      = (w.0, w.1, w.2, canonical-more (suc e.0) b t es (omega (arith, h.0)) h.1 s c w.3)

  few-entries : (low b : ℕ) (es : List (ℕ × Trie V)) → low ≤ b → EndsBelow b es → AreCanonical low (as_children es)
      → low + length es ≤ b
  few-entries low b [] l h w = omega (arith, l)
  few-entries low b (e ∷ es) l h w = omega (arith, w.0, few-entries (suc e.0) b es (omega (arith, h.0)) h.1 w.3)

  pairs-more : (b : ℕ) (t : Trie V) (es : List (ℕ × Trie V)) → children_pairs (as_children (es ++ (b, t) ∷ []))
      ≡ children_pairs (as_children es) ++ pairs_of t
  pairs-more b t [] = append-nil (pairs_of t)
  pairs-more b t (e ∷ es) = ap (λ z. pairs_of e.1 ++ z) (pairs-more b t es)
      ∙ sym (append_assoc (pairs_of e.1) (children_pairs (as_children es)) (pairs_of t))

  two-children : (es : List (ℕ × Trie V)) → 2 ≤ length es → HasTwoChildren (as_children es)
  two-children [] h = absurd (omega (arith, h))
  two-children (e ∷ []) h = absurd (omega (arith, h))
  two-children (e ∷ f ∷ es) h = tt

  pub entries-length : (ts : List (Trie V)) → length (edge_entries ts) ≡ length ts
  entries-length [] = refl
  entries-length (t ∷ ts) = omega (arith, entries-length ts)

  -- all unfinished nodes are above the end of the key
  spine-inside : (k : List ℕ) (fs : List (Frame V)) (ts : List (Trie V)) → IsSpine k fs ts → IsShallow (length k) fs
  spine-inside k [] ts h = tt
  spine-inside k (f ∷ fs) ts h = h.1.inside

  deeper : (d e : ℕ) (fs : List (Frame V)) → d ≤ e → IsShallow d fs → IsShallow e fs
  deeper d e [] l h = tt
  deeper d e (f ∷ fs) l h = omega (arith, l, h)

  -- the nodes above the depth d are those of every key that agrees up to it
  module _ (d : ℕ) (k n : List ℕ) (same : take d k ≡ take d n) (reach : d ≤ length n) where
    spine-moves : (fs : List (Frame V)) (ts : List (Trie V)) → IsShallow d fs → IsSpine k fs ts → IsSpine n fs ts
    spine-moves [] ts s h = h
    spine-moves (f ∷ fs) ts s h = (
      h.0,
      record {
        starts = h.1.starts;
        inside = omega (arith, s, reach);
        children = h.1.children;
        before = subst (λ (b : ℕ). EndsBelow b (edge_entries (drop f.start ts)))
            (same-byte f.depth d k n s same) h.1.before;
      },
      h.2,
      spine-moves fs (take f.start ts) (deeper f.depth d fs (omega (arith, s)) h.2) h.3,
    )

    pairs-move : (fs : List (Frame V)) (ts : List (Trie V)) → IsShallow d fs → IsSpine k fs ts
        → spine_pairs n fs ts ≡ spine_pairs k fs ts
    pairs-move [] ts s h = refl
    pairs-move (f ∷ fs) ts s h = ap₂ ◌++◌ (pairs-move fs (take f.start ts)
        (deeper f.depth d fs (omega (arith, s)) h.2) h.3)
        (ap (λ q. with_prefix q (own_pair f.value ++ children_pairs (as_children (edge_entries (drop f.start ts)))))
        (take-sooner f.depth d n k (omega (arith, s)) (sym same)))

  -- the child that a finished node is, of the unfinished node above it
  abbrev finished : List ℕ → ℕ → ℕ → Option V → ℕ → Children V → Trie V
  finished k d end v c cs = node (take (end - d) (drop d k)) v c cs

  -- an unfinished node with one more finished child
  pub record HasMore (k : List ℕ) (f : Frame V) (ts us : List (Trie V)) (added : List (List ℕ × V)) : Type 0 where
    pub starts : f.start ≤ length us
    pub before : take f.start us ≡ take f.start ts
    pub count : length (drop f.start us) ≡ length (drop f.start ts) + 1
    pub few : length (drop f.start us) ≤ 256
    pub children : AreCanonical 0 (as_children (edge_entries (drop f.start us)))
    pub below : (c : ℕ) → slice_index k f.depth < c → EndsBelow c (edge_entries (drop f.start us))
    pub pairs : frame_pairs k f (drop f.start us) ≡ frame_pairs k f (drop f.start ts) ++ added

  module _ (k : List ℕ) (small : (d : ℕ) → slice_index k d < 256) (end : ℕ) (reach : end ≤ length k) (v : Option V)
      (c : ℕ) (cs : Children V) (whole : IsCanonical (node [] v c cs)) where
    added-pairs : (d : ℕ) → d ≤ end → with_prefix (take d k) (pairs_of (finished k d end v c cs))
        ≡ pairs_of (node (take end k) v c cs)
    added-pairs d l = let e : d + (end - d) ≡ end = omega (arith, l) in
        prefix-twice (take d k) (take (end - d) (drop d k)) (own_pair v ++ children_pairs cs)
        ∙ ap (λ q. with_prefix q (own_pair v ++ children_pairs cs))
        (sym (take-add d (end - d) k) ∙ ap (λ z. take z k) e)

    pub one-more : (f : Frame V) (ts us : List (Trie V)) → f.depth < end → IsOpen k f ts
        → us ≡ ts ++ finished k f.depth end v c cs ∷ []
        → HasMore k f ts us (pairs_of (node (take end k) v c cs))
    one-more f ts us l h e =
        let d = f.depth in
        let part = take (end - d) (drop d k) in
        let t = finished k d end v c cs in
        let old = drop f.start ts in
        let long : length part ≡ end - d
        = length-take-le (end - d) (drop d k) (omega (arith, reach, length-drop d k)) in
        let byte : slice_index part 0 ≡ slice_index k d
        = get_or-take (end - d) (drop d k) 0 0 (omega (arith, l)) ∙ byte-of d k in
        let new : drop f.start us ≡ old ++ t ∷ []
        = ap (drop f.start) e ∙ drop-append-le f.start ts (t ∷ []) h.starts in
        let entries : edge_entries (drop f.start us) ≡ edge_entries old ++ (slice_index part 0, t) ∷ []
        = ap edge_entries new ∙ map-append (λ u. (slice_index (prefix_of u) 0, u)) old (t ∷ []) in
        let ends : EndsBelow (slice_index part 0) (edge_entries old)
        = subst (λ (b : ℕ). EndsBelow b (edge_entries old)) (sym byte) h.before in
        let up : AreCanonical 0 (as_children (edge_entries old ++ (slice_index part 0, t) ∷ []))
        = canonical-more 0 (slice_index part 0) t (edge_entries old) (omega arith) ends
        (starts-itself part (omega (arith, long, l))) whole h.children in
        let all : (b : ℕ) → slice_index k d < b → EndsBelow b (edge_entries old ++ (slice_index part 0, t) ∷ [])
        = λ b less. ends-more (slice_index part 0) b t (edge_entries old) (omega (arith, byte, less)) ends in
        record {
          starts = omega (arith, h.starts, ap length e, length-append ts (t ∷ []));
          before = ap (take f.start) e ∙ take-append-le f.start ts (t ∷ []) h.starts;
          count = omega (arith, ap length new, length-append old (t ∷ []));
          few = omega (
            arith,
            few-entries 0 256 (edge_entries old ++ (slice_index part 0, t) ∷ []) (omega arith) (all 256 (small d)) up,
            ap length entries,
            entries-length (drop f.start us),
          );
          children = rw entries up;
          below = λ b less. rw entries (all b less);
          pairs = ap (λ z. with_prefix (take d k) (own_pair f.value ++ children_pairs (as_children z))) entries
              ∙ ap (λ z. with_prefix (take d k) (own_pair f.value ++ z))
              (pairs-more (slice_index part 0) t (edge_entries old))
              ∙ ap (with_prefix (take d k)) (sym (append_assoc (own_pair f.value)
              (children_pairs (as_children (edge_entries old))) (pairs_of t)))
              ∙ prefix-append (take d k) (own_pair f.value ++ children_pairs (as_children (edge_entries old)))
              (pairs_of t)
              ∙ ap (λ z. frame_pairs k f old ++ z) (added-pairs d (omega (arith, l)));
        }

    -- a node that is finished
    pub closed-more : (f : Frame V) (fs : List (Frame V)) (ts us : List (Trie V)) (all : List (List ℕ × V))
        → IsSpine k (f ∷ fs) ts → f.depth < end
        → spine_pairs k (f ∷ fs) ts ++ pairs_of (node (take end k) v c cs) ≡ all
        → us ≡ ts ++ finished k f.depth end v c cs ∷ []
        → IsClosed k fs (take f.start us) f.depth (node [] f.value (capacity_of (length (drop f.start us)))
        (as_children (edge_entries (drop f.start us)))) all
    closed-more f fs ts us all h l pairs e =
        let m = one-more f ts us l h.1 e in
        let kids = edge_entries (drop f.start us) in
        let count : length kids ≡ length (drop f.start us) = entries-length (drop f.start us) in
        record {
          spine = rw m.before h.3;
          shallow = h.2;
          reach = omega (arith, h.1.inside);
          canonical = (
            ⊎_elim (λ s. inl s) (λ s. inr (two-children kids (omega (arith, s, count, m.count)))) h.0,
            ap capacity_of (sym count ∙ sym (edges_of-length kids)),
            m.children,
          );
          pairs = ap (λ z. spine_pairs k fs z ++ frame_pairs k f (drop f.start us)) m.before
              ∙ ap (λ z. spine_pairs k fs (take f.start ts) ++ z) m.pairs
              ∙ sym (append_assoc (spine_pairs k fs (take f.start ts)) (frame_pairs k f (drop f.start ts))
              (pairs_of (node (take end k) v c cs))) ∙ pairs;
        }

    -- the key n comes next, and leaves k at the depth d
    module _ (n : List ℕ) (d : ℕ) (same : take d k ≡ take d n) (less : slice_index k d < slice_index n d)
        (goes : d < length n) (ends : d < end) where
      kept-on : (f : Frame V) (fs : List (Frame V)) (ts us : List (Trie V)) (all : List (List ℕ × V)) → f.depth ≡ d
          → IsOpen k f ts → IsShallow f.depth fs → IsSpine k fs (take f.start ts)
          → spine_pairs k (f ∷ fs) ts ++ pairs_of (node (take end k) v c cs) ≡ all
          → us ≡ ts ++ finished k d end v c cs ∷ []
          → IsSpine n (f ∷ fs) us × (spine_pairs n (f ∷ fs) us ≡ all)
      kept-on f fs ts us all at h s up pairs e =
          let e' : us ≡ ts ++ finished k f.depth end v c cs ∷ []
          = e ∙ ap (λ z. ts ++ finished k z end v c cs ∷ []) (sym at) in
          let m = one-more f ts us (omega (arith, at, ends)) h e' in
          let reach' : d ≤ length n = omega (arith, goes) in
          let s' : IsShallow d fs = subst (λ (z : ℕ). IsShallow z fs) at s in
          let rest : IsSpine k fs (take f.start us) = rw m.before up in
          let own : frame_pairs n f (drop f.start us) ≡ frame_pairs k f (drop f.start us)
          = ap (λ q. with_prefix q (own_pair f.value ++ children_pairs (as_children (edge_entries (drop f.start us)))))
          (take-sooner f.depth d n k (omega (arith, at)) (sym same)) in (
            (
              inr (omega (arith, m.count)),
              record {
                starts = m.starts;
                inside = omega (arith, at, goes);
                children = m.children;
                before = m.below (slice_index n f.depth) (rw at less);
              },
              s,
              spine-moves d k n same reach' fs (take f.start us) s' rest,
            ),
            ap₂ ◌++◌ (pairs-move d k n same reach' fs (take f.start us) s' rest) (own ∙ m.pairs)
                ∙ ap (λ z. spine_pairs k fs z
                ++ (frame_pairs k f (drop f.start ts) ++ pairs_of (node (take end k) v c cs))) m.before
                ∙ sym (append_assoc (spine_pairs k fs (take f.start ts)) (frame_pairs k f (drop f.start ts))
                (pairs_of (node (take end k) v c cs))) ∙ pairs,
          )

      pub goes-on : (fs gs : List (Frame V)) (ts us : List (Trie V)) (all : List (List ℕ × V)) → IsSpine k fs ts
          → IsReached d (length ts) fs gs
          → spine_pairs k fs ts ++ pairs_of (node (take end k) v c cs) ≡ all
          → us ≡ ts ++ finished k d end v c cs ∷ []
          → IsSpine n gs us × (spine_pairs n gs us ≡ all)
      goes-on fs gs ts us all h (inl r) pairs e =
          let g : Frame V = record { depth = d; start = length ts; value = None } in
          let none : drop (length ts) ts ≡ [] = drop_all (length ts) ts (omega arith) in
          let all' : take (length ts) ts ≡ ts = take-length ts in
          let no-pairs : frame_pairs k g (drop (length ts) ts) ≡ []
          = ap (λ z. frame_pairs k g z) none in
          rw r.1 (kept-on g fs ts us all refl
          (record {
            starts = omega arith;
            inside = omega (arith, ends, reach);
            children = rw none tt;
            before = rw none tt;
          }) r.0 (rw all' h)
          (ap₂ (λ y z. (spine_pairs k fs y ++ z) ++ pairs_of (node (take end k) v c cs)) all' no-pairs
          ∙ ap (λ z. z ++ pairs_of (node (take end k) v c cs)) (append-nil (spine_pairs k fs ts)) ∙ pairs) e)
      goes-on [] gs ts us all h (inr r) pairs e = absurd r.0
      goes-on (f ∷ fs) gs ts us all h (inr r) pairs e
          = rw r.1 (kept-on f fs ts us all r.0 h.1 h.2 h.3 pairs e)

  -- a key that begins the next one becomes an unfinished node with its value
  pub opened : (k n : List ℕ) (v : V) (fs gs : List (Frame V)) (ts us : List (Trie V)) → IsSpine k fs ts
      → take (length k) k ≡ take (length k) n → length k < length n
      → gs ≡ record { depth = length k; start = length ts; value = Some v } ∷ fs → us ≡ ts
      → IsSpine n gs us × (spine_pairs n gs us ≡ spine_pairs k fs ts ++ (k, v) ∷ [])
  opened k n v fs gs ts us h same goes eg eu =
      let none : drop (length ts) ts ≡ [] = drop_all (length ts) ts (omega arith) in
      let all : take (length ts) ts ≡ ts = take-length ts in
      let path : take (length k) n ≡ k = sym same ∙ take-length k in
      let s : IsShallow (length k) fs = spine-inside k fs ts h in
      let reach : length k ≤ length n = omega (arith, goes) in
      rw (eg, eu) (
        (
          inl refl,
          record { starts = omega arith; inside = goes; children = rw none tt; before = rw none tt },
          s,
          rw all (spine-moves (length k) k n same reach fs ts s h),
        ),
        ap₂ (λ y z. spine_pairs n fs y
            ++ with_prefix (take (length k) n) (([], v) ∷ children_pairs (as_children (edge_entries z))))
            all none
            ∙ ap₂ ◌++◌ (pairs-move (length k) k n same reach fs ts s h)
            (ap (λ q. (q, v) ∷ []) (append-nil (take (length k) n) ∙ path)),
      )

  -- the leaf of a key is finished, and nothing below it
  pub leaf-closed : (k : List ℕ) (v : V) (fs : List (Frame V)) (ts : List (Trie V)) → IsSpine k fs ts
      → IsClosed k fs ts (length k) (node [] (Some v) 0 no_children) (spine_pairs k fs ts ++ (k, v) ∷ [])
  leaf-closed k v fs ts h = record {
    spine = h;
    shallow = spine-inside k fs ts h;
    reach = omega arith;
    canonical = (inl refl, refl, tt);
    pairs = ap (λ q. spine_pairs k fs ts ++ (q, v) ∷ []) (append-nil (take (length k) k) ∙ take-length k);
  }

  -- at the end all is finished
  pub all-closed : (k : List ℕ) (fs : List (Frame V)) (ts : List (Trie V)) (end : ℕ) (p : List ℕ) (v : Option V)
      (c : ℕ) (cs : Children V) (all : List (List ℕ × V)) → IsShallow 0 fs → p ≡ take end k
      → IsClosed k fs ts end (node [] v c cs) all
      → IsCanonical (node p v c cs) × (pairs_of (node p v c cs) ≡ all)
  all-closed k [] ts end p v c cs all s e h = (h.canonical, ap (λ q. pairs_of (node q v c cs)) e ∙ h.pairs)
  all-closed k (f ∷ fs) ts end p v c cs all s e h = absurd (omega (arith, s))
