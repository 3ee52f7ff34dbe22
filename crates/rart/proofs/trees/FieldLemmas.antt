-- The fields of a tree that kept some pairs, and the nodes that the removal of a prefix visits.
use Rattle.std.proofs.Common.{◌≡◌, ℕ, zero, suc, ◌+◌, ◌-◌, ◌*◌, ◌≤◌, ◌<◌, ◌∙◌, List, [], ◌∷◌, length, Some, None}
use Rattle.std.proofs.Common.{ap, refl, arith}
use Rattle.std.specs.Prelude.{Option}
use Rattle.rart_keys.specs.Filters.{below}
use Rattle.rart_keys.specs.KeyBytes.{IsWithin}
use Rattle.rart_keys.specs.SortedMap.{longest_key}
use Rattle.rart_trie.specs.tries.Tree.{IsCanonicalTree, tree_pairs}
use Rattle.rart_trie.specs.tries.Trie.{Trie}
use Rattle.rart_trie.specs.walks.BelowPrefix.{below_bound}
use Rattle.rart.specs.MapAndShape.{AreTreeFields}

-- the bound of a tree that kept some pairs, or 0 without pairs, is within the maximum
within-kept : (m : Option ℕ) (longest kept bound : ℕ) → IsWithin m longest → (kept ≡ 0 → bound ≡ 0)
    → (0 < kept → bound ≡ longest) → IsWithin m bound
within-kept None longest kept bound within none some = tt
within-kept (Some maximum) longest zero bound within none some = omega (arith, none refl)
within-kept (Some maximum) longest (suc kept) bound within none some = omega (arith, some (omega arith))

-- a part of the pairs is no longer than all
pub part-at_most : (n part rest whole len : ℕ) → n ≡ part → rest + part ≡ whole → len ≡ whole → n ≤ len
part-at_most n part rest whole len counted parts total = omega arith

-- the number of the other pairs
pub rest-counted : (n part rest whole len : ℕ) → n ≡ part → rest + part ≡ whole → len ≡ whole → len - n ≡ rest
rest-counted n part rest whole len counted parts total = omega arith

-- a part of the pairs was counted before and after some of its pairs were removed: how many pairs are left
pub record Recounted (before after len new : ℕ) : Type 0 where
  pub shrunk : after ≤ before
  pub at_most : before - after ≤ len
  pub left : len - (before - after) ≡ new

recounted-by : (before after part left new old len : ℕ) → before ≡ part → after ≡ left → new + part ≡ old + left
    → new ≤ old → len ≡ old → Recounted before after len new
recounted-by before after part left new old len counted again others fewer total
    = record { shrunk = omega arith; at_most = omega arith; left = omega arith }

module _ {V : Type 0} where
  -- the bound is at least the length of each kept key
  short-kept : (es : List (List ℕ × V)) (longest bound : ℕ) → longest_key es ≤ longest → (length es ≡ 0 → bound ≡ 0)
      → (0 < length es → bound ≡ longest) → longest_key es ≤ bound
  short-kept [] longest bound short none some = omega arith
  short-kept (e ∷ es) longest bound short none some = omega arith

  -- a tree with some of another's pairs: its bound is that tree's, or 0 without pairs
  pub fields-kept : (m : Option ℕ) (old part : Option (Trie V)) (len longest kept bound : ℕ)
      → AreTreeFields m old len longest → IsCanonicalTree part → kept ≡ length (tree_pairs part) → kept ≤ len
      → longest_key (tree_pairs part) ≤ longest_key (tree_pairs old) → (kept ≡ 0 → bound ≡ 0)
      → (0 < kept → bound ≡ longest) → AreTreeFields m part kept bound
  fields-kept m old part len longest kept bound fields canonical counted at_most shorter none some = record {
    canonical = canonical;
    counted = counted;
    few = omega (arith, fields.few);
    short = short-kept (tree_pairs part) longest bound (omega (arith, fields.short)) (rw counted at none)
        (rw counted at some);
    within = within-kept m longest kept bound fields.within none some;
    unused = none;
  }

  -- the number that a shared tree of the root counts
  pub pairs-counted : (seen copied root : Option (Trie V)) (n : ℕ) → n ≡ length (tree_pairs seen) → seen ≡ copied
      → copied ≡ root → n ≡ length (tree_pairs root)
  pairs-counted seen copied root n counted shows copies = counted ∙ ap (λ o. length (tree_pairs o)) (shows ∙ copies)

  -- the nodes on the way to the taken pairs, and those that are visited to count them
  pub bound-taken : (es : List (List ℕ × V)) (start middle end : ℕ) {p q : List ℕ} {taken : List (List ℕ × V)} {n : ℕ}
      → p ≡ q
      → taken ≡ below p es → middle ≤ start + length p + 1 → end ≤ middle + 2 * n → n ≡ length taken
      → end ≤ start + below_bound q es
  bound-taken es start middle end same takes first second counted = rw (← same)
      (omega (arith, ap length takes))

  -- the pairs of a part, those of it that are left counted by a shared tree of the root
  pub recounted : (part : List (List ℕ × V) → List (List ℕ × V)) (old seen copied root : Option (Trie V))
      (before after len : ℕ) → before ≡ length (part (tree_pairs old)) → after ≡ length (part (tree_pairs seen))
      → seen ≡ copied → copied ≡ root
      → length (tree_pairs root) + length (part (tree_pairs old))
      ≡ length (tree_pairs old) + length (part (tree_pairs root))
      → length (tree_pairs root) ≤ length (tree_pairs old) → len ≡ length (tree_pairs old)
      → Recounted before after len (length (tree_pairs root))
  recounted part old seen copied root before after len counted again shows copies others fewer total = recounted-by
      before after (length (part (tree_pairs old))) (length (part (tree_pairs root))) (length (tree_pairs root))
      (length (tree_pairs old)) len counted (again ∙ ap (λ o. length (part (tree_pairs o))) (shows ∙ copies)) others
      fewer total
