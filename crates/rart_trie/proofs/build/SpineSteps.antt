-- The steps of a builder: what each call keeps of the unfinished nodes.
use Rattle.std.proofs.Common.{◌≡◌, ℕ, ◌+◌, ◌-◌, ◌<◌, ◌≤◌, List, [], ◌∷◌, ◌++◌, length, take, drop, arith}
use Rattle.std.proofs.Common.{sym, ap, ◌∙◌, Option, Some, None, subst, inl, Result, Ok, Err}
use Rattle.std.specs.Prelude.{slice_index, reverse, OnOk}
use Rattle.std.proofs.lemmas.List.{length-drop, length-take-le}
use Rattle.rart_keys.specs.ByteStrings.{IsLess}
use Rattle.rart_keys.specs.CommonPrefix.{IsCommonPrefixLength}
use Rattle.rart_keys.specs.KeyBytes.{IsWithin}
use Rattle.rart_trie.specs.build.Spine.{IsClosed, IsReached, IsShallow, IsSpine, edge_entries, spine_pairs}
use Rattle.rart_trie.specs.declared.node.edits.builder.Frame.{Frame}
use Rattle.rart_trie.specs.shapes.Shape.{capacity_of}
use Rattle.rart_trie.specs.tries.Trie.{Trie, node, Children, pairs_of}
use Rattle.rart_trie.specs.tries.TrieCode.{as_children}
use Rattle.std.proofs.lemmas.List.{take_more_same}
use Rattle.rart_trie.proofs.build.SpineLemmas.{HasMore, closed-more, goes-on, one-more, opened, parted, reversed-last}
use Rattle.rart_trie.proofs.edits.InsertLemmas.{fewer-within}

-- a part of a key within a maximum is within it
pub part-within : (m : Option ℕ) (k part : List ℕ) (d e : ℕ) → part ≡ take (e - d) (drop d k) → e ≤ length k
    → IsWithin m (length k) → IsWithin m (length part)
part-within m k part d e is l w = fewer-within m (length k) (length part) (omega (
  arith,
  ap length is,
  length-take-le (e - d) (drop d k) (omega (arith, l, length-drop d k)),
)) w

-- where two ascending keys part
parts : (k n : List ℕ) (m : ℕ) → IsLess k n → IsCommonPrefixLength k n m
    → (m < length n) × (m < length k → slice_index k m < slice_index n m)
parts k n m less c = parted m k n less c.same c.within_left c.within_right (λ g h s. let more = c.greatest (m + 1)
    (omega (arith, g)) (omega (arith, h)) (take_more_same k n m 0 g h c.same s) in absurd (omega (arith, more)))

-- a node at a depth is added
pub reached-new : {V A E : Type 0} (r : Result A E) (d n : ℕ) (fs gs : List (Frame V)) → IsShallow d (reverse fs)
    → OnOk r (gs ≡ fs ++ record { depth = d; start = n; value = None } ∷ [])
    → OnOk r (IsReached d n (reverse fs) (reverse gs))
reached-new (Ok a) d n fs gs h e = inl (h, reversed-last fs gs (record { depth = d; start = n; value = None }) e)
reached-new (Err e') d n fs gs h e = tt

module _ {V : Type 0} (k : List ℕ) where
  -- the innermost unfinished node is above what is finished
  pub frame-inside : (hs gs : List (Frame V)) (f : Frame V) (ts : List (Trie V)) (end : ℕ) (t : Trie V)
      (all : List (List ℕ × V)) → IsClosed k (reverse gs) ts end t all → gs ≡ hs ++ f ∷ []
      → (f.depth < end) × (end ≤ length k)
  frame-inside hs gs f ts end t all h e = (
    subst (λ (fs : List (Frame V)). IsShallow end fs) (reversed-last hs gs f e) h.shallow,
    h.reach,
  )

  module _ (small : (d : ℕ) → slice_index k d < 256) (hs gs : List (Frame V)) (f : Frame V) (ts us : List (Trie V))
      (end : ℕ) (v : Option V) (c : ℕ) (cs : Children V) (all : List (List ℕ × V))
      (h : IsClosed k (reverse gs) ts end (node [] v c cs) all) (popped : gs ≡ hs ++ f ∷ [])
      (waits : us ≡ ts ++ node (take (end - f.depth) (drop f.depth k)) v c cs ∷ []) where
    spine-now : IsSpine k (f ∷ reverse hs) ts
    spine-now = subst (λ (fs : List (Frame V)). IsSpine k fs ts) (reversed-last hs gs f popped) h.spine

    -- the children of the innermost unfinished node
    pub frame-children : HasMore k f ts us (pairs_of (node (take end k) v c cs))
    frame-children = one-more k small end h.reach v c cs h.canonical f ts us
        (frame-inside hs gs f ts end (node [] v c cs) all h popped).0 spine-now.1 waits

    -- it is finished
    pub frame-closed : (ws : List (Trie V)) (v' : Option V) (c' : ℕ) (cs' : Children V) → ws ≡ take f.start us
        → v' ≡ f.value → c' ≡ capacity_of (length (drop f.start us))
        → cs' ≡ as_children (edge_entries (drop f.start us))
        → IsClosed k (reverse hs) ws f.depth (node [] v' c' cs') all
    frame-closed ws v' c' cs' ew ev ec es = rw (ew, ev, ec, es) (closed-more k small end h.reach v c cs h.canonical f
        (reverse hs) ts us all spine-now (frame-inside hs gs f ts end (node [] v c cs) all h popped).0
        (ap (λ fs. spine_pairs k fs ts ++ pairs_of (node (take end k) v c cs))
        (sym (reversed-last hs gs f popped)) ∙ h.pairs)
        waits)

  -- the next key goes on at the depth d
  key-leaves : (small : (d : ℕ) → slice_index k d < 256) (n : List ℕ) (d end : ℕ) (fs gs : List (Frame V))
      (ts us : List (Trie V)) (v : Option V) (c : ℕ) (cs : Children V) (all : List (List ℕ × V)) → IsLess k n
      → IsCommonPrefixLength k n d → d + 1 ≤ end → IsClosed k fs ts end (node [] v c cs) all
      → IsReached d (length ts) fs gs → us ≡ ts ++ node (take (end - d) (drop d k)) v c cs ∷ []
      → IsSpine n gs us × (spine_pairs n gs us ≡ all)
  key-leaves small n d end fs gs ts us v c cs all less common low h r e =
      let p = parts k n d less common in
      let inside : d < length k = omega (arith, low, h.reach) in
      goes-on k small end h.reach v c cs h.canonical n d common.same (p.1 inside) p.0 (omega (arith, low))
      fs gs ts us all
      h.spine r h.pairs e

-- a key that begins the next one, where the call is Ok
pub key-begins : {V A E : Type 0} (r : Result A E) (k n : List ℕ) (m : ℕ) (v : V) (gs hs : List (Frame V))
    (ts us : List (Trie V)) → IsSpine k (reverse gs) ts → IsLess k n → IsCommonPrefixLength k n m → m ≡ length k
    → OnOk r (hs ≡ gs ++ record { depth = m; start = length ts; value = Some v } ∷ []) → us ≡ ts
    → OnOk r (IsSpine n (reverse hs) us)
    × OnOk r (spine_pairs n (reverse hs) us ≡ spine_pairs k (reverse gs) ts ++ (k, v) ∷ [])
key-begins (Ok a) k n m v gs hs ts us h less common whole e eu =
    let all : record { depth = m; start = length ts; value = Some v } ∷ reverse gs
    ≡ record { depth = length k; start = length ts; value = Some v } ∷ reverse gs
    = ap (λ d. record { depth = d; start = length ts; value = Some v } ∷ reverse gs) whole in
    let same : take (length k) k ≡ take (length k) n = subst (λ (z : ℕ). take z k ≡ take z n) whole common.same in
    let goes : length k < length n = omega (arith, (parts k n m less common).0, whole) in
    let o = opened k n v (reverse gs) (reverse hs) ts us h same goes
    (reversed-last gs hs (record { depth = m; start = length ts; value = Some v }) e ∙ all) eu in
    (o.0, o.1)
key-begins (Err e') k n m v gs hs ts us h less common whole e eu = (tt, tt)

-- a key that leaves the one before it, where the call is Ok
pub key-parts : {V A E : Type 0} (r : Result A E) (k : List ℕ) (small : (d : ℕ) → slice_index k d < 256) (n : List ℕ)
    (d end : ℕ) (fs gs : List (Frame V)) (ts us : List (Trie V)) (v : Option V) (c : ℕ) (cs : Children V)
    (all : List (List ℕ × V)) → IsLess k n → IsCommonPrefixLength k n d → d + 1 ≤ end
    → IsClosed k fs ts end (node [] v c cs) all → IsReached d (length ts) fs gs
    → OnOk r (us ≡ ts ++ node (take (end - d) (drop d k)) v c cs ∷ [])
    → OnOk r (IsSpine n gs us) × OnOk r (spine_pairs n gs us ≡ all)
key-parts (Ok a) k small n d end fs gs ts us v c cs all less common low h reached e =
    let o = key-leaves k small n d end fs gs ts us v c cs all less common low h reached e in (o.0, o.1)
key-parts (Err e') k small n d end fs gs ts us v c cs all less common low h reached e = (tt, tt)
