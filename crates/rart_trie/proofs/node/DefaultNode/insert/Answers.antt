use Rattle.std.proofs.Common.{length, max, arith, sym, ap, ◌∙◌}
use Rattle.rart_keys.specs.SortedMap.{count_of, longest_key}
use Rattle.rart_keys.proofs.maps.SortedMaps.{length-put}
use Rattle.rart_trie.specs.tries.Trie.{pairs_of}
use Rattle.rart_trie.proofs.tries.CanonicalTests.{longest_key-put}
use Rattle.rart_trie.proofs.edits.InsertAllocationLemmas.{allocates-insert}
use Rattle.std.proofs.lemmas.Result.{on_ok_weaker, on_err_weaker}
use Rattle.rart_trie.proofs.edits.Outcomes.{if_ok_weaker, if_ok_weaker_on}
use Rattle.rart_trie.proofs.tries.PairLemmas.{pairs_of-ascend, lookup-pairs_of}
use Rattle.rart_trie.proofs.edits.PutLemmas.{canonical-put, pairs_of-put}
use Rattle.rart_trie.proofs.tries.NodeCounts.{some-pairs}
use Rattle.rart_trie.proofs.shapes.ShapeLemmas.{record_is, new-key}
use Rattle.rart_trie.proofs.node.DefaultNode.insert.Goals as goal

pub returns : goal.returns
returns g c =
    let key = c.args.key.now in
    let old = c.args.self.now in
    let canonical = c.requires.canonical in
    let pairs = pairs_of-put key c.args.value old canonical in
    let answer = sym (lookup-pairs_of key old canonical) in
    record {
      canonical = on_ok_weaker c.put.result (λ e. rw e (canonical-put key c.args.value old canonical)) c.put.ensures.ok;
      pairs = on_ok_weaker c.put.result (λ e. ap pairs_of e ∙ pairs) c.put.ensures.ok;
      answer = if_ok_weaker c.put.result (λ x e. e ∙ answer) c.put.ensures.answer;
      count = if_ok_weaker_on c.put.result (λ x e a. omega (
        arith,
        length-put key c.args.value (pairs_of old) (pairs_of-ascend old canonical),
        ap length (ap pairs_of e
            ∙ pairs),
        ap count_of (a ∙ answer),
      )) c.put.ensures.ok c.put.ensures.answer;
      longest_key = on_ok_weaker c.put.result (λ e. omega (
        arith,
        ap longest_key (ap pairs_of e ∙ pairs),
        longest_key-put key c.args.value
            (max (longest_key (pairs_of old)) (length key)) (pairs_of old) (omega arith) (omega arith),
      )) c.put.ensures.ok;
      unchanged = c.put.ensures.unchanged;
      returned = c.put.ensures.returned;
      allocates = on_err_weaker c.put.result (λ e. let none = sym (record_is key old canonical) ∙ e.1 in (
        some-pairs old canonical,
        new-key key (pairs_of old) none,
        none,
        sym (allocates-insert key old canonical)
            ∙ e.0,
      ))
          c.put.ensures.allocates;
    }
