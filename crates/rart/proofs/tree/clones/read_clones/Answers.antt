use Rattle.std.proofs.Common.{◌≡◌, ◌∙◌, [], ◌∷◌, ◌++◌, ℕ, List, ap, append_assoc, arith, length, length-append, subst}
use Rattle.std.proofs.Common.{sym}
use Rattle.std.specs.Prelude.{◌≢◌}
use Rattle.std.proofs.lemmas.List.{append-nil}
use Rattle.std.specs.List.{AllZip}
use Rattle.rart_keys.specs.SortedMap.{IsAscending, keys_of, values_of}
use Rattle.rart_trie.specs.shapes.KeyLists.{unit_pairs}
use Rattle.rart.proofs.bulks.BulkEndLemmas.{ascending-by-keys, on-err}
use Rattle.rart.proofs.bulks.BulkLoadLemmas.{keys-at-end, last-below, values-at-end}
use Rattle.rart.proofs.bulks.CopyLemmas.{copied-all, copied-more, left-shorter}
use Rattle.rart.proofs.tree.clones.read_clones.Goals as goal

-- the clones so far, with those of the pairs that are left, are those of all pairs: with one clone more too
one-clone-more : {V : Type 0} (Clones : V → V → Type 0) (old rest rest' : List (List ℕ × V)) (clones clones' : List V)
    {k : List ℕ} (v w : V)
    → ((more : List V) → AllZip Clones (values_of rest) more → AllZip Clones (values_of old) (clones ++ more))
    → rest ≡ (k, v) ∷ rest' → clones' ≡ clones ++ w ∷ [] → Clones v w
    → (more : List V) → AllZip Clones (values_of rest') more → AllZip Clones (values_of old) (clones' ++ more)
one-clone-more Clones old rest rest' clones clones' {k} v w before r c is more h =
    rw (c, append_assoc) (before (w ∷ more) (rw r (is, h)))

pub loop-key-init : goal.loop-key-init
loop-key-init g c = record {
  keys = rw (c.new-loader.ensures, c.in-Ok.ensures.pairs);
  values = λ more h. rw c.new-loader.ensures (rw c.in-Ok.ensures.pairs at h);
}

pub append-requires : goal.append-requires
append-requires g c = record {
  later = last-below _ _ _ (subst (λ z. IsAscending (unit_pairs z))
      (sym c.loop-key.invariant.keys ∙ ap (λ z. keys_of c.loop-key.loader ++ keys_of z) c.in-Some.ensures.steps)
      (ascending-by-keys _ c.canonical.ensures.ascending));
}

pub loop-key-smaller : goal.loop-key-smaller
loop-key-smaller g c = left-shorter _ _ _ c.in-Some.ensures.steps

pub loop-key-preserved : goal.loop-key-preserved
loop-key-preserved g c = record {
  keys = copied-more _ _ _ _ _ _ (ap keys_of c.in-Ok-append.ensures.pairs ∙ keys-at-end c.loop-key.loader _ _)
      (ap keys_of c.in-Some.ensures.steps) c.loop-key.invariant.keys;
  values = one-clone-more g.V.Clone.is_clone _ _ _ _ _ _ _ c.loop-key.invariant.values c.in-Some.ensures.steps
      (ap values_of c.in-Ok-append.ensures.pairs ∙ values-at-end c.loop-key.loader _ _) c.in_ok-clone.ensures.cases;
}

-- a tree with a pair that is left isn't empty
some-left : {V : Type 0} (old rest next : List (List ℕ × V)) (ks : List (List ℕ)) (e : List ℕ × V)
    → ks ++ keys_of rest ≡ keys_of old → rest ≡ e ∷ next → old ≢ []
some-left old rest next ks e whole steps none = omega (
  arith,
  ap length whole,
  ap (λ z. length (keys_of z)) none,
  ap (λ z. length (keys_of z)) steps,
  length-append ks (keys_of rest),
)

pub returns-in_err-clone-clause-allocates : goal.returns-in_err-clone-clause-allocates
returns-in_err-clone-clause-allocates g c = on-err _ (some-left _ _ _ _ _ c.loop-key.invariant.keys
    c.in-Some.ensures.steps)

pub returns-in_default-append-clause-allocates : goal.returns-in_default-append-clause-allocates
returns-in_default-append-clause-allocates g c = some-left _ _ _ _ _ c.loop-key.invariant.keys
    c.in-Some.ensures.steps

pub returns-clause-keys : goal.returns-clause-keys
returns-clause-keys g c = sym (copied-all _ _ _ (sym c.loop-key.invariant.keys)
    (ap keys_of c.in_default-next.ensures.steps.0))

pub returns-clause-values : goal.returns-clause-values
returns-clause-values g c =
    rw (append-nil (values_of c.loop-key.loader)) at
    (c.loop-key.invariant.values [] (rw c.in_default-next.ensures.steps.0 tt))
