use Rattle.std.proofs.Common.{rules, ◌≡◌, ℕ, ◌+◌, ◌-◌, ◌^◌, ◌∙◌, min, List, [], ◌∷◌, ◌++◌, length, length-append, ap}
use Rattle.std.proofs.Common.{arith, sym}
use Rattle.std.proofs.lemmas.List.{length-map}
use Rattle.rart.specs.BulkLoads.{FailsSorted}
use Rattle.rart.specs.Steps.{pairs_in}
use Rattle.rart.proofs.bulks.BulkLoadLemmas.{pairs-more, reads-more}
use Rattle.rart.proofs.tree.bulk.read.read_sorted.Goals as goal

pub returns-in-Err-clause-refused : goal.returns-in-Err-clause-refused
returns-in-Err-clause-refused g c =
    let bytes = g.K.KeyTrait.bytes in
    reads-more g.I.IntoIterator.into_iter_gives g.I.IntoIter.Iterator.next_gives _
    (λ xs. FailsSorted (pairs_in bytes xs) c.in-Err.error) _ _ _ _ (c.in-Some.key, c.in-Some.value) _
    c.into_iter-key-iterator.ensures.into_iter_gives c.loop-key.yielded_by c.in-Some.is c.next.ensures.steps
    (rw (pairs-more bytes c.loop-key.yielded (c.in-Some.key, c.in-Some.value)) (c.in-Err.ensures.refused
    (pairs_in bytes c.loop-key.yielded) c.loop-key.invariant.read
    (c.loop-key.invariant.at_is ∙ ap (λ n. min n (2 ^ 64 - 1))
    (sym (length-map c.loop-key.yielded (λ p. (bytes p.0, p.1)))))))

-- the place of the next item, which saturates
place-more : {A : Type 0} (xs : List A) (x : A) (at next most : ℕ) → at ≡ min (length xs) most
    → next ≡ min (at + 1) most → next ≡ min (length (xs ++ x ∷ [])) most
place-more xs x at next most h k = omega (arith, length-append xs (x ∷ []))

pub loop-key-preserved : goal.loop-key-preserved
loop-key-preserved g c = record {
  can = search rules;
  finite = search rules;
  at_is = place-more c.loop-key.yielded (c.in-Some.key, c.in-Some.value) _ _ _ c.loop-key.invariant.at_is
      c.saturating_add-at.ensures;
  read = rw (pairs-more g.K.KeyTrait.bytes c.loop-key.yielded (c.in-Some.key, c.in-Some.value))
      (c.in_default.ensures.keeps_item (pairs_in g.K.KeyTrait.bytes c.loop-key.yielded) c.loop-key.invariant.read);
}
