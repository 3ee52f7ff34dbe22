use Rattle.std.proofs.Common.{◌≡◌, ◌∙◌, sym, refl, ap, None}
use Rattle.rart_keys.specs.SortedMap.{lookup, without}
use Rattle.rart_c.proofs.Removals.{without-absent}
use Rattle.rart_c.proofs.map128.edits.rart128_remove.Goals as goal

pub returns-in-Ok-None : goal.returns-in-Ok-None
returns-in-Ok-None c =
    let pairs = c.args.map.now.held.tree.pairs in
    let key = c.args.key.now in
    let removes = rw c.in-Ok-None.is at c.remove_k-answer.ensures.removes in
    let none : c.in-Ok-None.field-0 ≡ None = rw c.in-Ok-None.is at c.in-Ok-None.field-0-is in
    let key_is = c.in-Some.ensures.fits.0 in
    let tree_is = ap (λ m. m.tree.pairs) (c.deref_mut.ensures.value ∙ c.in-Some-take.ensures.takes) in
    let absent : lookup key pairs ≡ None =
    sym (removes.0 ∙ ap (λ k. lookup k c.deref_mut.result.now.tree.pairs) key_is ∙ ap (lookup key) tree_is) ∙ none in
    let left : c.give.new.map.held.tree.pairs ≡ without key pairs =
    ap (λ m. m.tree.pairs) c.give.ensures ∙ removes.1
    ∙ ap (λ k. without k c.deref_mut.result.now.tree.pairs) key_is ∙ ap (without key) tree_is in
    (c.in-Some.ensures.fits.1, absent, (left ∙ without-absent key pairs absent, refl))
