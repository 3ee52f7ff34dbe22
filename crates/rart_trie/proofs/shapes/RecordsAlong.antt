-- What the records along a string say, at a node by the rest of the string after its prefix.
use Rattle.std.proofs.Common.{◌≡◌, ℕ, ◌==◌, ⊎_elim, false, true, List, [], ◌∷◌, Option, Some, None, is_some}
use Rattle.std.proofs.Common.{if◌then◌else◌, refl, sym, ap, ◌∙◌}
use Rattle.std.specs.List.{list_any}
use Rattle.rart_keys.specs.ByteStrings.{strip_prefix}
use Rattle.rart_keys.proofs.strings.ByteOrder.{eq-yes, eq-no, equal_or_not}
use Rattle.rart_trie.specs.shapes.Shape.{NodeRecord}
use Rattle.rart_trie.specs.tries.Trie.{Trie, node, Children, no_children, child, child_of, edges_of, AreCanonical}
use Rattle.rart_trie.specs.tries.Trie.{by_rest, descend_child, descend_tree, record_of, prefix_of, StartsWith}
use Rattle.rart_trie.proofs.shapes.ShapeLemmas.{records}
use Rattle.rart_trie.proofs.tries.Descents.{child-first}

-- `Says f q a`: along q, where f gives the records, a is read
pub record AreReadings {A : Type 0} (Says : (List ℕ → Option NodeRecord) → List ℕ → A → Type 0) : Type 0 where
  pub same : (f g : List ℕ → Option NodeRecord) (q : List ℕ) (a : A) → ((z : List ℕ) → f z ≡ g z) → Says f q a
      → Says g q a
  -- a byte with no record before it
  pub past : (f : List ℕ → Option NodeRecord) (b : ℕ) (q : List ℕ) (a : A) → f [] ≡ None → Says (λ z. f (b ∷ z)) q a
      → Says f (b ∷ q) a

module _ {V : Type 0} where
  abbrev pub records_in : Option (Trie V) → List ℕ → Option NodeRecord
  records_in o z = descend_tree records z o

  records-longer : (x y : ℕ) (q p : List ℕ) (v : Option V) (n : ℕ) (cs : Children V)
      → records_in (Some (node (x ∷ p) v n cs)) (y ∷ q) ≡ (if x == y then records_in (Some (node p v n cs)) q else None)
  records-longer x y q p v n cs = elim (x == y) as (λ z. by_rest None (Some (record_of (node p v n cs))) (λ r. r)
      (if z then strip_prefix p q else None) (λ b r. descend_child records b r cs)
      ≡ (if z then records_in (Some (node p v n cs)) q else None)) [ true ↦ refl | false ↦ refl ]

  records-nil : (b : ℕ) (t : Trie V) → StartsWith b (prefix_of t) → records_in (Some t) [] ≡ None
  records-nil b (node [] v n cs) f = absurd f
  records-nil b (node (x ∷ p) v n cs) f = refl

  pub edge-is_some : (b : ℕ) (cs : Children V) → list_any (λ c. c == b) (edges_of cs) ≡ is_some (child_of b cs)
  edge-is_some b no_children = refl
  edge-is_some b (child c t cs) = ⊎_elim (λ e. rw (eq-yes c b e) refl) (λ n. rw (eq-no c b n) (edge-is_some b cs))
      (equal_or_not c b)

  pub none-first : (b : ℕ) (cs : Children V) → AreCanonical 0 cs → records_in (child_of b cs) [] ≡ None
  none-first b cs w = elim (child_of b cs) as (λ o. child_of b cs ≡ o → records_in o [] ≡ None) [
    | None ↦ λ e. refl
    | Some t ↦ λ e. records-nil b t (child-first b 0 t cs w e)
  ] refl

  module _ {A : Type 0} (Says : (List ℕ → Option NodeRecord) → List ℕ → A → Type 0) (laws : AreReadings Says) where
    longer-reads : (x b : ℕ) (p q : List ℕ) (v : Option V) (n : ℕ) (cs : Children V) (a : A) → x ≡ b
        → Says (records_in (Some (node p v n cs))) q a → Says (records_in (Some (node (x ∷ p) v n cs))) (b ∷ q) a
    longer-reads x b p q v n cs a e h = laws.past _ b q a refl
        (laws.same _ _ q a (λ z. sym (records-longer x b z p v n cs
        ∙ ap (λ y. if y then records_in (Some (node p v n cs)) z else None) (eq-yes x b e))) h)

    -- the string continues after the prefix
    pub reads-after : (p q r : List ℕ) (v : Option V) (n : ℕ) (cs : Children V) (a : A) → strip_prefix p q ≡ Some r
        → Says (records_in (Some (node [] v n cs))) r a → Says (records_in (Some (node p v n cs))) q a
    reads-after [] q r v n cs a s h = let e : q ≡ r = cc in rw e h
    reads-after (x ∷ p) [] r v n cs a s h = cc
    reads-after (x ∷ p) (b ∷ q) r v n cs a s h = ⊎_elim
        (λ e. let f = rw (eq-yes x b e) at s in longer-reads x b p q v n cs a e (reads-after p q r v n cs a f h))
        (λ d. let f = rw (eq-no x b d) at s in cc) (equal_or_not x b)

    -- the string leaves the prefix
    pub reads-apart : (p q : List ℕ) (v : Option V) (n : ℕ) (cs : Children V) (a : A) → strip_prefix p q ≡ None
        → ((f : List ℕ → Option NodeRecord) → f [] ≡ None → Says f [] a) → ((q : List ℕ) → Says (λ z. None) q a)
        → Says (records_in (Some (node p v n cs))) q a
    reads-apart [] q v n cs a s ends none = cc
    reads-apart (x ∷ p) [] v n cs a s ends none = ends _ refl
    reads-apart (x ∷ p) (b ∷ q) v n cs a s ends none = ⊎_elim
        (λ e. let f = rw (eq-yes x b e) at s in longer-reads x b p q v n cs a e (reads-apart p q v n cs a f ends none))
        (λ d. laws.past (records_in (Some (node (x ∷ p) v n cs))) b q a refl
        (laws.same (λ z. None) (λ z. records_in (Some (node (x ∷ p) v n cs)) (b ∷ z)) q a
        (λ z. sym (records-longer x b z p v n cs
        ∙ ap (λ y. if y then records_in (Some (node p v n cs)) z else None) (eq-no x b d))) (none q)))
        (equal_or_not x b)
