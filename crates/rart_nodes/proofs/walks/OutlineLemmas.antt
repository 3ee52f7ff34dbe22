-- How the text of a tree grows as its nodes are written.
use Rattle.std.proofs.Common.{◌≡◌, ℕ, suc, ◌+◌, ◌≤◌, ◌<◌, true, List, [], ◌∷◌, ◌++◌, length, max, Option, Some, None}
use Rattle.std.proofs.Common.{Ok, Err, refl, ap, ap₂, ◌∙◌, sym, subst, arith}
use Rattle.std.specs.List.{FoldsTo}
use Rattle.std.proofs.lemmas.List.Folds.{concat-append}
use Rattle.std.proofs.lemmas.List.{append_assoc}
use Rattle.std.specs.Prelude.{IfSome, IsErrAnd, Result}
use Rattle.std.specs.declared.fmt.Error.{Error}
use Rattle.std.specs.declared.fmt.Formatter.{Formatter}
use Rattle.std.specs.Fmt.{DisplaysOnOk, HasWritten, IsPlainFormatter, ◌++?◌}
use Rattle.rart_keys.specs.SortedMap.{longest_key}
use Rattle.rart_trie.specs.tries.CanonicalTest.{is_canonical}
use Rattle.rart_trie.specs.tries.Trie.{Trie, node, Children, child, children_in, prefix_of, value_of}
use Rattle.rart_trie.specs.tries.Trie.{capacity_in, children_pairs, pairs_of, AreCanonical, IsCanonical, StartsWith}
use Rattle.rart_trie.specs.tries.TrieCode.{child_count}
use Rattle.rart_trie.proofs.tries.CanonicalTests.{IsCanonical-test, longest_key-append}
use Rattle.rart_trie.proofs.tries.StepLemmas.{longest-below}
use Rattle.rart_nodes.specs.walks.Outlines.{children_outline, node_line, outline_below}

pub then-assoc : (a b c : Option (List ℕ)) → (a ++? b) ++? c ≡ a ++? (b ++? c)
then-assoc None b c = refl
then-assoc (Some a) None c = refl
then-assoc (Some a) (Some b) None = refl
then-assoc (Some a) (Some b) (Some c) = ap Some (append_assoc a b c)

module _ {W : Type 0} (took : W → List ℕ → W → Type 0) where
  -- g is f after the text in o, if f is plain
  pub record Shows (f : Formatter W) (o : Option (List ℕ)) (g : Formatter W) : Type 0 where
    pub shown : IfSome o (λ bs. IsPlainFormatter f → HasWritten took f bs g)

  -- so it is if a call that returned r succeeded
  pub record Ends (f : Formatter W) (r : Result (Unit {0}) Error) (o : Option (List ℕ)) (g : Formatter W) : Type 0 where
    pub ended : DisplaysOnOk took f r o g

  folds-then : (w v u : W) (xs ys : List (List ℕ)) → FoldsTo took w xs v → FoldsTo took v ys u
      → FoldsTo took w (xs ++ ys) u
  folds-then w v u [] ys p q = subst (λ z. FoldsTo took z ys u) (sym p) q
  folds-then w v u (x ∷ xs) ys p q = (p.0, p.1, folds-then p.0 v u xs ys p.2 q)

  written-then : (f : Formatter W) (a : List ℕ) (g : Formatter W) (b : List ℕ) (h : Formatter W)
      → HasWritten took f a g → HasWritten took g b h → HasWritten took f (a ++ b) h
  written-then f a g b h x y = record {
    wrote = record {
      parts = x.wrote.parts ++ y.wrote.parts;
      calls = folds-then f.writer g.writer h.writer x.wrote.parts y.wrote.parts x.wrote.calls y.wrote.calls;
      whole = concat-append x.wrote.parts y.wrote.parts ∙ ap₂ (λ u v. u ++ v) x.wrote.whole y.wrote.whole;
    };
    plain = y.plain;
  }

  shows-then : (f g h : Formatter W) (o p : Option (List ℕ)) → Shows f o g → Shows g p h → Shows f (o ++? p) h
  shows-then f g h None p x y = record { shown = tt }
  shows-then f g h (Some a) None x y = record { shown = tt }
  shows-then f g h (Some a) (Some b) x y
      = record { shown = λ e. let s = x.shown e in written-then f a g b h s (y.shown s.plain) }

  -- what a call that succeeded has written
  pub shows-ok : (f g : Formatter W) (x : Unit {0}) (o : Option (List ℕ)) → DisplaysOnOk took f (Ok x) o g
      → Shows f o g
  shows-ok f g x None d = record { shown = tt }
  shows-ok f g x (Some bs) d = record { shown = λ e. d e refl }

  -- a text and then another, of a call that may fail
  pub ends-front : (f g h : Formatter W) (r : Result (Unit {0}) Error) (o p : Option (List ℕ)) → Shows f o g
      → Ends g r p h → Ends f r (o ++? p) h
  ends-front f g h r None p x y = record { ended = tt }
  ends-front f g h r (Some a) None x y = record { ended = tt }
  ends-front f g h r (Some a) (Some b) x y
      = record { ended = λ e k. let s = x.shown e in written-then f a g b h s (y.ended s.plain k) }

  -- a call that failed
  pub displays-err : (f g : Formatter W) (r : Result (Unit {0}) Error) (P : Error → Type 0) (o : Option (List ℕ))
      → IsErrAnd r P → DisplaysOnOk took f r o g
  displays-err f g (Ok x) P o h = absurd h
  displays-err f g (Err e) P None h = tt
  displays-err f g (Err e) P (Some bs) h = λ p k. absurd (let z = k in cc)

  module _ {V : Type 0} (shown : V → Option (List ℕ)) where
    -- of the lines at and below a node, all but those of some last children are written
    pub record IsWrittenTo (level : ℕ) (t : Trie V) (rest : Children V) (f g : Formatter W) : Type 0 where
      pub done : Option (List ℕ)
      pub whole : outline_below shown level t ≡ done ++? children_outline shown (suc level) rest
      pub shows : Shows f done g

    pub written-start : (level : ℕ) (t : Trie V) (f g : Formatter W)
        → Shows f (node_line shown level (prefix_of t) (value_of t) (capacity_in t)) g
        → IsWrittenTo level t (children_in t) f g
    written-start level (node p v n cs) f g s = record { done = node_line shown level p v n; whole = refl; shows = s }

    pub written-child : (level b : ℕ) (t : Trie V) {u : Trie V} {cs ds : Children V} {f g h : Formatter W}
        → cs ≡ child b u ds
        → IsWrittenTo level t cs f g → Shows g (outline_below shown (suc level) u) h → IsWrittenTo level t ds f h
    written-child level b t {u} {ds} {f} {g} {h} e w s = record {
      done = w.done ++? outline_below shown (suc level) u;
      whole = w.whole ∙ ap (λ z. w.done ++? children_outline shown (suc level) z) e
          ∙ sym (then-assoc w.done (outline_below shown (suc level) u) (children_outline shown (suc level) ds));
      shows = shows-then f g h w.done (outline_below shown (suc level) u) w.shows s;
    }

first-long : (b : ℕ) (p : List ℕ) → StartsWith b p → 0 < length p
first-long b [] s = absurd s
first-long b (x ∷ p) s = omega arith

module _ {V : Type 0} where
  children-canonical : (t : Trie V) → IsCanonical t → AreCanonical 0 (children_in t)
  children-canonical (node p v n cs) w = w.2

  longest-both : (u : Trie V) (b : ℕ) (cs ds : Children V) → cs ≡ child b u ds
      → longest_key (children_pairs cs) ≡ max (longest_key (pairs_of u)) (longest_key (children_pairs ds))
  longest-both u b cs ds e = ap (λ z. longest_key (children_pairs z)) e
      ∙ longest_key-append (pairs_of u) (children_pairs ds)

  -- cs are the last children of a node t
  pub record AreLast (t : Trie V) (cs : Children V) : Type 0 where
    pub low : ℕ
    pub canonical : AreCanonical low cs
    pub fewer : child_count cs ≤ child_count (children_in t)
    pub shorter : longest_key (children_pairs cs) ≤ longest_key (children_pairs (children_in t))

  pub all-last : (t : Trie V) (cs : Children V) → is_canonical t ≡ true → cs ≡ children_in t → AreLast t cs
  all-last t cs c e = record {
    low = 0;
    canonical = rw e (children-canonical t (IsCanonical-test t c));
    fewer = rw e (omega arith);
    shorter = rw e (omega arith);
  }

  pub fewer-last : (t u : Trie V) (b : ℕ) (cs ds : Children V) → cs ≡ child b u ds → AreLast t cs → AreLast t ds
  fewer-last t u b cs ds e w = let canonical = rw e at w.canonical in record {
    low = suc b;
    canonical = canonical.3;
    fewer = omega (arith, w.fewer, ap child_count e);
    shorter = omega (arith, w.shorter, longest-both u b cs ds e);
  }

  -- the level of a child is within what its parent's keys are
  pub child-level : (t u : Trie V) (b level : ℕ) (cs ds : Children V) → cs ≡ child b u ds → AreLast t cs
      → level + 1 + longest_key (children_pairs (children_in u)) ≤ level + longest_key (children_pairs (children_in t))
  child-level t u b level cs ds e w = let canonical = rw e at w.canonical in omega (
    arith,
    w.shorter,
    longest-both u b cs ds e,
    longest-below u canonical.2,
    first-long b (prefix_of u) canonical.1,
  )
