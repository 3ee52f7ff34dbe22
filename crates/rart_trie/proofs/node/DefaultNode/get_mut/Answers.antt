use Rattle.std.proofs.Common.{refl, sym, ap, ◌∙◌, Some}
use Rattle.rart_trie.specs.tries.Trie.{IsCanonical, trie_lookup, trie_put}
use Rattle.rart_trie.proofs.edits.LoanLemmas.{lent}
use Rattle.rart_trie.proofs.edits.Outcomes.{on_some_weaker, if_none_weaker}
use Rattle.rart_trie.proofs.tries.PairLemmas.{lookup-pairs_of}
use Rattle.rart_trie.proofs.node.DefaultNode.get_mut.Goals as goal

pub returns-in-Some : goal.returns-in-Some
returns-in-Some g c =
    let key = c.args.key.now in
    let canonical : IsCanonical c.in-Some.node = rw c.in-Some.is at c.requires.canonical in
    let value = c.lend.ensures.value ∙ ap (trie_lookup key) c.in-Some.node-is in (
      (
        refl,
        λ w. let left = c.lend.follows.holds w in
            rw c.in-Some.is (lent key w c.in-Some.node (c.lend.follows.lender w) c.lend.result canonical value (
              on_some_weaker c.lend.result (λ h. h ∙ ap (trie_put key w) c.in-Some.node-is) left.0,
              if_none_weaker
                  c.lend.result (λ h. h ∙ c.in-Some.node-is) left.1,
            )),
        rw c.in-Some.is (ap Some (c.lend.follows.holds-at-none ∙ c.in-Some.node-is)),
      ),
      record { writes_back = tt; value = rw c.in-Some.is (value ∙ sym (lookup-pairs_of key c.in-Some.node canonical)) },
    )
