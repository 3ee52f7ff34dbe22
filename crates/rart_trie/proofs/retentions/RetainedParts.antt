-- What a walk over a part of a child leaves, as a walk over the part of its parent.
use Rattle.std.proofs.Common.{◌≡◌, ℕ, Bool, List, sym, MutBor}
use Rattle.std.specs.Borrow.{Bor}
use Rattle.std.specs.Fn.{Mut}
use Rattle.rart_trie.specs.declared.node.edits.retain.Retention.{Retention}
use Rattle.rart_trie.specs.declared.node.edits.retain.Retention.TheVariants.{Done, Rejected, Refused}
use Rattle.rart_trie.specs.declared.node.part.Part.{Part}
use Rattle.rart_trie.specs.edits.RetainSteps.{RetainsAllWhere, RetainsSubtree}
use Rattle.rart_trie.specs.ranges.Parts.{is_in_part}
use Rattle.rart_trie.specs.tries.Trie.{Trie, StartsWith, pairs_of, prefix_of}
use Rattle.rart_trie.proofs.changes.ValueChangeLemmas.{Agree, agree-first}
use Rattle.rart_trie.proofs.retentions.RetentionLemmas.{calls-agree}
use Rattle.rart_trie.proofs.tries.FirstBytes.{pairs_of-first}

module _ {F V : Type 0} (call : Mut F (Bor (List ℕ) × (MutBor V × Unit {0})) (Bool × (MutBor V × Unit {0})))
    (s : Part) where
  all-agree : (s' : Part) (q : List ℕ) (f g : F) (t u : Trie V) (n : ℕ)
      → Agree (is_in_part s) (is_in_part s') (pairs_of t)
      → RetainsAllWhere call (is_in_part s') q f (pairs_of t) (pairs_of u) n g
      → RetainsAllWhere call (is_in_part s) q f (pairs_of t) (pairs_of u) n g
  all-agree s' q f g t u n a h = record {
    fates = h.fates;
    calls = calls-agree call (is_in_part s) (is_in_part s') q (pairs_of t) h.fates f g a h.calls;
    all = h.all;
    refused = h.refused;
    ends = h.ends;
    left = h.left;
  }

  -- if both parts have the same keys there
  subtree-agree : (s' : Part) (q : List ℕ) (walk : Retention) (f g : F) (t u : Trie V)
      → Agree (is_in_part s) (is_in_part s') (pairs_of t) → RetainsSubtree call s' q walk f t u g
      → RetainsSubtree call s q walk f t u g
  subtree-agree s' q Done f g t u a h = all-agree s' q f g t u 0 a h
  subtree-agree s' q Rejected f g t u a h = (h.0, all-agree s' q f g t u 1 a h.1)
  subtree-agree s' q Refused f g t u a h = record {
    key = h.key;
    retains = record {
      fates = h.retains.fates;
      calls = calls-agree call (is_in_part s) (is_in_part s') q (pairs_of t) h.retains.fates f g a h.retains.calls;
      refused = h.retains.refused;
      key = h.retains.key;
      ends = h.retains.ends;
      left = h.retains.left;
    };
    inner = h.inner;
    allocates = h.allocates;
  }

  pub child-part : (s' : Part) (q : List ℕ) (walk : Retention) (f g : F) (b : ℕ) (t u : Trie V)
      → StartsWith b (prefix_of t) → ((l : List ℕ) → StartsWith b l → is_in_part s' l ≡ is_in_part s l)
      → RetainsSubtree call s' q walk f t u g → RetainsSubtree call s q walk f t u g
  child-part s' q walk f g b t u c a h = subtree-agree s' q walk f g t u
      (agree-first b (is_in_part s) (is_in_part s') (pairs_of t) (λ l i. sym (a l i)) (pairs_of-first b t c)) h
