use Rattle.std.proofs.Common.{length, max, arith, ap, ◌∙◌}
use Rattle.rart_keys.specs.SortedMap.{count_of, longest_key}
use Rattle.rart_keys.proofs.maps.SortedMaps.{length-put}
use Rattle.rart_trie.specs.tries.Trie.{pairs_of}
use Rattle.rart_trie.proofs.tries.CanonicalTests.{longest_key-put}
use Rattle.std.proofs.lemmas.Result.{on_ok_weaker}
use Rattle.rart_trie.proofs.edits.Outcomes.{if_err_weaker, on_ok_both}
use Rattle.rart_trie.proofs.edits.InsertStopLemmas.{fails-insert}
use Rattle.rart_trie.proofs.tries.PairLemmas.{pairs_of-ascend, lookup-pairs_of}
use Rattle.rart_trie.proofs.edits.PutLemmas.{canonical-put, pairs_of-put}
use Rattle.rart_trie.proofs.node.DefaultNode.insert_new.Goals as goal

pub returns : goal.returns
returns g c =
    let key = c.args.key.now in
    let old = c.args.self.now in
    let canonical = c.requires.canonical in
    let pairs = pairs_of-put key c.args.value old canonical in
    record {
      canonical = on_ok_weaker c.put_new.result (λ e. rw e (canonical-put key c.args.value old canonical))
          c.put_new.ensures.ok;
      pairs = on_ok_weaker c.put_new.result (λ e. ap pairs_of e ∙ pairs) c.put_new.ensures.ok;
      absent = on_ok_weaker c.put_new.result (λ none. lookup-pairs_of key old canonical ∙ none)
          c.put_new.ensures.absent;
      count = on_ok_both c.put_new.result (λ e none. omega (
        arith,
        length-put key c.args.value (pairs_of old) (pairs_of-ascend old canonical),
        ap length (ap pairs_of e
            ∙ pairs),
        ap count_of (lookup-pairs_of key old canonical ∙ none),
      )) c.put_new.ensures.ok
          c.put_new.ensures.absent;
      longest_key = on_ok_weaker c.put_new.result (λ e. omega (
        arith,
        ap longest_key (ap pairs_of e ∙ pairs),
        longest_key-put key c.args.value
            (max (longest_key (pairs_of old)) (length key)) (pairs_of old) (omega arith) (omega arith),
      ))
          c.put_new.ensures.ok;
      unchanged = c.put_new.ensures.unchanged;
      refused = if_err_weaker c.put_new.result (λ why s. fails-insert key c.args.value old why canonical s)
          c.put_new.ensures.refused;
    }
