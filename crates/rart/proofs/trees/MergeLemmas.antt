-- The pairs of one map that are merged into another, and the one that is refused.
use Rattle.std.proofs.Common.{◌≡◌, ◌++◌, ◌∷◌, ◌≤◌, ℕ, List, [], length, refl, sym, ap, subst, ◌∙◌, arith}
use Rattle.std.proofs.Common.{append_assoc, inl, false, Option, Some, None}
use Rattle.std.specs.Borrow.{Bor, MutBor}
use Rattle.std.specs.Fn.{Mut, always_mut}
use Rattle.std.specs.List.{FoldsTo}
use Rattle.std.specs.Option.{IsSomeAnd}
use Rattle.std.specs.Prelude.{is_some, slice_get}
use Rattle.std.proofs.lemmas.List.{append-nil}
use Rattle.rart_keys.specs.ByteStrings.{IsLess}
use Rattle.rart_keys.specs.SortedMap.{AreAbove, IsAscending, lookup, put}
use Rattle.rart_trie.specs.declared.refused.Refused.{Refused}
use Rattle.rart_trie.specs.walks.Calls.{CallableAtEach}
use Rattle.rart_parts.specs.declared.error.TreeError.{TreeError}
use Rattle.rart.specs.Appends.{PutsBack}
use Rattle.rart.specs.Merges.{Merges, MergesFirst, MergesInto, MergesPair, MergesUntil}
use Rattle.rart.specs.Refusals.{MayRefuseInsert, MayRefuseRemove}
use Rattle.rart.specs.declared.tree.TheConstants.{MAX_PAIRS}
use Rattle.rart.proofs.trees.AppendLemmas.{put-back}
use Rattle.rart.proofs.trees.UnionLemmas.{lookup-after, put-after}

module _ {P A : Type 0} (R : P → A → P → Type 0) where
  folds-on : (xs ys : List A) (p q r : P) → FoldsTo R p xs q → FoldsTo R q ys r → FoldsTo R p (xs ++ ys) r
  folds-on [] ys p q r h k = subst (λ (z : P). FoldsTo R z ys r) (sym h) k
  folds-on (x ∷ xs) ys p q r h k = (h.0, h.1, folds-on xs ys h.0 q r h.2 k)

  -- what may be called at each of some items may be at the later ones, after the calls at the earlier ones
  pub callable-on : (Q : P → A → Type 0) (xs ys all : List A) (p q : P) → all ≡ xs ++ ys → FoldsTo R p xs q
      → CallableAtEach R Q p all → CallableAtEach R Q q ys
  callable-on Q xs ys all p q e f h = record {
    at = λ before x after j same k. h.at (xs ++ before) x after j
        (e ∙ ap (λ z. xs ++ z) same ∙ sym (append_assoc xs before (x ∷ after))) (folds-on xs before p q j f k);
  }

module _ {V : Type 0} where
  pub none-stored : (o : Option V) → is_some o ≡ false → o ≡ None
  none-stored None e = refl
  none-stored (Some v) e = cc

  -- a key within an ascending list is above those before it
  above-earlier : (k : List ℕ) (before : List (List ℕ × V)) (x : List ℕ × V) (xs : List (List ℕ × V))
      → AreAbove k (before ++ x ∷ xs) → IsLess k x.0
  above-earlier k [] x xs h = h.0
  above-earlier k (b ∷ before) x xs h = above-earlier k before x xs h.1

  lookup-end : (before : List (List ℕ × V)) (x : List ℕ × V) (xs : List (List ℕ × V))
      → IsAscending (before ++ x ∷ xs) → lookup x.0 before ≡ None
  lookup-end [] x xs h = refl
  lookup-end (b ∷ before) x xs h = lookup-after x.0 b before (above-earlier b.0 before x xs h.0)
      ∙ lookup-end before x xs h.1

  put-end : (before : List (List ℕ × V)) (x : List ℕ × V) (xs : List (List ℕ × V))
      → IsAscending (before ++ x ∷ xs) → put x.0 x.1 before ≡ before ++ x ∷ []
  put-end [] x xs h = refl
  put-end (b ∷ before) x xs h = put-after x.0 x.1 b before (above-earlier b.0 before x xs h.0)
      ∙ ap (λ z. b ∷ z) (put-end before x xs h.1)

module _ {F K V : Type 0} (call : Mut F (Bor K × (MutBor V × (V × Unit {0}))) (Unit {0} × (MutBor V × Unit {0})))
    (bytes : K → List ℕ) where
  pub one-merged : (f f' : F) (old other new rest left : List (List ℕ × V)) (pair : List ℕ × V) → other ≡ pair ∷ rest
      → left ≡ rest → MergesPair call bytes (f, old) pair (f', new) → MergesFirst call bytes f old other f' new left
  one-merged f f' old other new rest left pair split same m = record {
    before = pair ∷ [];
    split = split ∙ ap (λ z. pair ∷ z) (sym same);
    merged = ((f', new), m, refl);
  }

  -- a pair with a new key
  pub one-new : (f : F) (old new : List (List ℕ × V)) (pair : List ℕ × V) → lookup pair.0 old ≡ None
      → new ≡ put pair.0 pair.1 old → MergesPair call bytes (f, old) pair (f, new)
  one-new f old new pair none is = rw none (refl, is)

  pub merged-on : (f g f' : F) (old other mid rest new left : List (List ℕ × V))
      → MergesFirst call bytes f old other g mid rest → MergesFirst call bytes g mid rest f' new left
      → MergesFirst call bytes f old other f' new left
  merged-on f g f' old other mid rest new left m n = record {
    before = m.before ++ n.before;
    split = m.split ∙ ap (λ z. m.before ++ z) n.split ∙ sym (append_assoc m.before n.before left);
    merged = folds-on (λ p x q. MergesPair call bytes p x q) m.before n.before (f, old) (g, mid) (f', new) m.merged
        n.merged;
  }

  pub merged-until : (f g f' : F) (old other mid rest new left : List (List ℕ × V)) (refused : Refused (Option (K × V)))
      → MergesFirst call bytes f old other g mid rest → MergesUntil call bytes g mid rest refused f' new left
      → MergesUntil call bytes f old other refused f' new left
  merged-until f g f' old other mid rest new left refused m n = record {
    before = m.before ++ n.before;
    pair = n.pair;
    rest = n.rest;
    split = m.split ∙ ap (λ z. m.before ++ z) n.split ∙ sym (append_assoc m.before n.before (n.pair ∷ n.rest));
    merged = folds-on (λ p x q. MergesPair call bytes p x q) m.before n.before (f, old) (g, mid) (f', new) m.merged
        n.merged;
    kept = n.kept;
  }

  pub all-merged : (f f' : F) (old other new left : List (List ℕ × V)) → MergesFirst call bytes f old other f' new left
      → left ≡ [] → Merges call bytes f old other f' new
  all-merged f f' old other new left m e = subst (λ (z : List (List ℕ × V)). Merges call bytes f old z f' new)
      (sym (m.split ∙ ap (λ z. m.before ++ z) e ∙ append-nil m.before)) m.merged

  -- an ascending list is merged into what comes before it
  merges-after : (f : F) (before xs : List (List ℕ × V)) → IsAscending (before ++ xs)
      → Merges call bytes f before xs f (before ++ xs)
  merges-after f before [] up = ap (λ z. (f, z)) (sym (append-nil before))
  merges-after f before (x ∷ xs) up =
      let same : (before ++ x ∷ []) ++ xs ≡ before ++ x ∷ xs = append_assoc before (x ∷ []) xs in (
        (f, before ++ x ∷ []),
        one-new f before (before ++ x ∷ []) x (lookup-end before x xs up) (sym (put-end before x xs up)),
        subst (λ (z : List (List ℕ × V)). Merges call bytes f (before ++ x ∷ []) xs f z) same
            (merges-after f (before ++ x ∷ []) xs (rw same up)),
      )

  pub merges-all : (f : F) (old other new : List (List ℕ × V)) → old ≡ [] → new ≡ other → IsAscending other
      → Merges call bytes f old other f new
  merges-all f old other new none same up = rw (none, same) (merges-after f [] other up)

  -- the first pair was removed, and then refused by the map
  pub first-refused : (f : F) (old other new rest left : List (List ℕ × V)) (key : K) (value : V)
      (refused : Refused (Option (K × V))) → other ≡ (bytes key, value) ∷ rest → IsAscending other
      → length other ≤ MAX_PAIRS → new ≡ old → MayRefuseInsert old (bytes key) refused.error
      → PutsBack bytes key value rest refused.value left → MergesUntil call bytes f old other refused f new left
  first-refused f old other new rest left key value refused split up most same r b =
      let ascends : IsAscending ((bytes key, value) ∷ rest) = rw split at up in record {
        before = [];
        pair = (bytes key, value);
        rest = rest;
        split = split;
        merged = ap (λ z. (f, z)) (sym same);
        kept = put-back bytes new rest left key value refused.error refused.value ascends.0
            (omega (arith, most, ap length split)) (rw same r) b;
      }

  -- the removal of the first pair was refused
  pub first-not-removed : (f : F) (old other left : List (List ℕ × V)) (error : TreeError)
      → IsSomeAnd (slice_get other 0) (λ p. MayRefuseRemove other p.0 error) → left ≡ other
      → MergesUntil call bytes f old other (record { error = error; value = None }) f old left
  first-not-removed f old [] left error r same = absurd r
  first-not-removed f old (pair ∷ rest) left error r same = record {
    before = [];
    pair = pair;
    rest = rest;
    split = refl;
    merged = refl;
    kept = (same, inl r);
  }

  -- a callback that may always be called still may after the calls
  always-into : (o : Option V) (p : F × List (List ℕ × V)) (x : List ℕ × V) (q : F × List (List ℕ × V))
      → MergesInto call bytes o p x q → always_mut call p.0 → always_mut call q.0
  always-into None p x q m h = subst (λ (z : F). always_mut call z) (sym m.0) h
  always-into (Some v) p x q m h = record {
    at = λ ys. (h.at ((m.1.0.key, (m.1.0.lent, (x.1, tt))) ∷ ys)).1 (tt, (m.1.0.left, tt)) q.0 m.1.0.called;
  }

  pub always-after-merges : (xs : List (List ℕ × V)) (p q : F × List (List ℕ × V))
      → FoldsTo (λ a x b. MergesPair call bytes a x b) p xs q → always_mut call p.0 → always_mut call q.0
  always-after-merges [] p q m h = subst (λ (z : F × List (List ℕ × V)). always_mut call z.0) m h
  always-after-merges (x ∷ xs) p q m h =
      always-after-merges xs m.0 q m.2 (always-into (lookup x.0 p.1) p x m.0 m.1 h)
