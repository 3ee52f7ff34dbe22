-- What is moved from one map to another, and a pair that is put back in front of those that are left.
use Rattle.std.proofs.Common.{◌≡◌, ◌++◌, ◌∷◌, ◌<◌, ◌≤◌, ℕ, List, [], length, refl, sym, ap, ◌∙◌, arith}
use Rattle.std.proofs.Common.{append_assoc, inl, inr, Option, Some, None}
use Rattle.std.specs.Option.{IsSomeAnd}
use Rattle.std.specs.Prelude.{slice_get}
use Rattle.std.proofs.lemmas.List.{append-nil}
use Rattle.rart_keys.specs.BulkLists.{put_all}
use Rattle.rart_keys.specs.SortedMap.{AreAbove, IsAscending, put}
use Rattle.rart_trie.specs.declared.refused.Refused.{Refused}
use Rattle.rart_parts.specs.declared.error.TreeError.{TreeError}
use Rattle.rart_parts.specs.declared.error.TreeError.TheVariants.{Memory, Full}
use Rattle.rart.specs.Appends.{IsNotMoved, Moves, MovesUntil, PutsBack}
use Rattle.rart.specs.Refusals.{MayRefuseInsert, MayRefuseRemove}
use Rattle.rart.specs.declared.tree.TheConstants.{MAX_PAIRS}
use Rattle.rart.proofs.bulks.ExtensionLemmas.{put_all-append}

module _ {V : Type 0} where
  put-first : (k : List ℕ) (v : V) (es : List (List ℕ × V)) → AreAbove k es → put k v es ≡ (k, v) ∷ es
  put-first k v [] a = refl
  put-first k v (e ∷ es) a = rw a.0 refl

  pub one-moved : (old other new rest left : List (List ℕ × V)) (pair : List ℕ × V) → other ≡ pair ∷ rest → left ≡ rest
      → new ≡ put pair.0 pair.1 old → Moves old other new left
  one-moved old other new rest left pair split same moved = record {
    before = pair ∷ [];
    split = split ∙ ap (λ z. pair ∷ z) (sym same);
    moved = moved;
  }

  pub moved-on : (old other mid rest new left : List (List ℕ × V)) → Moves old other mid rest → Moves mid rest new left
      → Moves old other new left
  moved-on old other mid rest new left m n = record {
    before = m.before ++ n.before;
    split = m.split ∙ ap (λ z. m.before ++ z) n.split ∙ sym (append_assoc m.before n.before left);
    moved = n.moved ∙ ap (put_all n.before) m.moved ∙ sym (put_all-append m.before n.before old);
  }

  pub all-moved : (old other new left : List (List ℕ × V)) → Moves old other new left → left ≡ []
      → new ≡ put_all other old
  all-moved old other new left m e =
      m.moved ∙ ap (λ z. put_all z old) (sym (m.split ∙ ap (λ z. m.before ++ z) e ∙ append-nil m.before))

module _ {K V : Type 0} (bytes : K → List ℕ) where
  pub moved-until : (old other mid rest new left : List (List ℕ × V)) (refused : Refused (Option (K × V)))
      → Moves old other mid rest → MovesUntil bytes mid rest refused new left
      → MovesUntil bytes old other refused new left
  moved-until old other mid rest new left refused m n = record {
    before = m.before ++ n.before;
    pair = n.pair;
    rest = n.rest;
    split = m.split ∙ ap (λ z. m.before ++ z) n.split ∙ sym (append_assoc m.before n.before (n.pair ∷ n.rest));
    moved = n.moved ∙ ap (put_all n.before) m.moved ∙ sym (put_all-append m.before n.before old);
    kept = n.kept;
  }

  -- a map with a free place refuses an insertion for memory alone
  for-memory : (map : List (List ℕ × V)) (key : List ℕ) (error : TreeError) → length map < MAX_PAIRS
      → MayRefuseInsert map key error → MayRefuseInsert map key Memory
  for-memory map key Memory few r = r
  for-memory map key Full few r = absurd (omega (arith, few, r.1))

  pub put-back : (new rest left : List (List ℕ × V)) (key : K) (value : V) (error : TreeError) (held : Option (K × V))
      → AreAbove (bytes key) rest → length rest < MAX_PAIRS → MayRefuseInsert new (bytes key) error
      → PutsBack bytes key value rest held left → IsNotMoved bytes new (bytes key, value) rest error held left
  put-back new rest left key value error None above few r b = (b ∙ put-first (bytes key) value rest above, inr r)
  put-back new rest left key value error (Some held) above few r b =
      (ap (λ z. (bytes z.0, z.1)) b.0, b.1, r, for-memory rest (bytes key) b.2.0 few b.2.1)

  -- the first pair was removed, and then refused by the map
  pub first-refused : (old other new rest left : List (List ℕ × V)) (key : K) (value : V)
      (refused : Refused (Option (K × V))) → other ≡ (bytes key, value) ∷ rest → IsAscending other
      → length other ≤ MAX_PAIRS → new ≡ old → MayRefuseInsert old (bytes key) refused.error
      → PutsBack bytes key value rest refused.value left → MovesUntil bytes old other refused new left
  first-refused old other new rest left key value refused split up most same r b =
      let ascends : IsAscending ((bytes key, value) ∷ rest) = rw split at up in record {
        before = [];
        pair = (bytes key, value);
        rest = rest;
        split = split;
        moved = same;
        kept = put-back new rest left key value refused.error refused.value ascends.0
            (omega (arith, most, ap length split)) (rw same r) b;
      }

  -- the removal of the first pair was refused
  pub first-not-removed : (old other left : List (List ℕ × V)) (error : TreeError)
      → IsSomeAnd (slice_get other 0) (λ p. MayRefuseRemove other p.0 error) → left ≡ other
      → MovesUntil bytes old other (record { error = error; value = None }) old left
  first-not-removed old [] left error r same = absurd r
  first-not-removed old (pair ∷ rest) left error r same = record {
    before = [];
    pair = pair;
    rest = rest;
    split = refl;
    moved = refl;
    kept = (same, inl r);
  }
