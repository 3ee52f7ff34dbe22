-- A load pair by pair: what its fields are after each step.
use Rattle.std.proofs.Common.{◌≡◌, ℕ, ◌+◌, max, List, [], ◌∷◌, ◌++◌, length, length-append, Option, Some, None}
use Rattle.std.proofs.Common.{ap, arith, refl, sym, subst, ◌∙◌}
use Rattle.std.specs.Cmp.Lexicographic.{slice_cmp}
use Rattle.std.specs.Ordering.{nat_cmp}
use Rattle.rart_keys.specs.BulkLists.{order_of_last}
use Rattle.rart_keys.specs.KeyBytes.{IsWithin}
use Rattle.rart_keys.specs.SortedMap.{keys_of, longest_key}
use Rattle.rart_trie.specs.build.Spine.{IsBuilderAt, builder_pairs}
use Rattle.rart_trie.specs.declared.node.edits.builder.Builder.{Builder}
use Rattle.rart.specs.Loaders.{AreLoaderFields, IsAtLast, ReplacesLast, loaded_pairs}
use Rattle.rart.specs.declared.tree.TheConstants.{MAX_PAIRS}
use Rattle.rart.proofs.bulks.BulkLoadLemmas.{keys-at-end, order-at-end}

pub longest-at-end : {V : Type 0} (es : List (List ℕ × V)) (e : List ℕ × V)
    → longest_key (es ++ e ∷ []) ≡ max (longest_key es) (length e.0)
longest-at-end [] e = omega arith
longest-at-end (d ∷ es) e = omega (arith, longest-at-end es e)

-- nothing is within any maximum
pub none-within : (m : Option ℕ) → IsWithin m 0
none-within None = tt
none-within (Some m) = omega arith

-- the longer of two lengths
pub longer-within : (m : Option ℕ) (a b : ℕ) → IsWithin m a → IsWithin m b → IsWithin m (max a b)
longer-within None a b g h = tt
longer-within (Some m) a b g h = omega (arith, g, h)

module _ {K P V : Type 0} (bytes : K → List ℕ) (b : Builder P V) (last : Option (K × V)) where
  pub order-last : (all : List (List ℕ × V)) (k : K) (v : V) (next : List ℕ) → loaded_pairs bytes b last ≡ all
      → last ≡ Some (k, v) → slice_cmp nat_cmp (bytes k) next ≡ order_of_last (keys_of all) next
  order-last all k v next are is = sym (order-at-end (keys_of (builder_pairs (bytes k) b)) (bytes k) next)
      ∙ ap (λ z. order_of_last z next) (sym (keys-at-end (builder_pairs (bytes k) b) (bytes k) v))
      ∙ ap (λ z. order_of_last (keys_of z) next) (sym (ap (loaded_pairs bytes b) is) ∙ are)

  module _ (m : Option ℕ) (len longest : ℕ) (fields : AreLoaderFields bytes m b last len longest) where
    pub replaced-fields : (k : K) (w v : V) → last ≡ Some (k, w)
        → AreLoaderFields bytes m b (Some (k, v)) len longest
    replaced-fields k w v is =
        let es = builder_pairs (bytes k) b in
        let counted = ap (λ z. length (loaded_pairs bytes b z)) is in
        let short = ap (λ z. longest_key (loaded_pairs bytes b z)) is in
        record {
          at_last = subst (IsAtLast bytes b) is fields.at_last;
          counted = omega (
            arith,
            fields.counted,
            counted,
            length-append es ((bytes k, w) ∷ []),
            length-append es ((bytes k, v) ∷ []),
          );
          few = fields.few;
          short = omega (
            arith,
            fields.short,
            short,
            longest-at-end es (bytes k, w),
            longest-at-end es (bytes k, v),
          );
          within = fields.within;
          unused = fields.unused;
        }

    pub appended-fields : (next : Builder P V) (k : K) (v : V) (now most : ℕ) → (len ≡ MAX_PAIRS → ⊥)
        → IsBuilderAt (bytes k) next → builder_pairs (bytes k) next ≡ loaded_pairs bytes b last
        → IsWithin m (length (bytes k)) → now ≡ len + 1 → most ≡ max longest (length (bytes k))
        → AreLoaderFields bytes m next (Some (k, v)) now most
    appended-fields next k v now most more at same reach counts longer =
        let es = builder_pairs (bytes k) next in
        let counted = ap length same in
        let short = ap longest_key same in
        record {
          at_last = at;
          counted = omega (arith, fields.counted, counted, counts, length-append es ((bytes k, v) ∷ []));
          few = omega (arith, fields.few, more, counts);
          short = omega (arith, fields.short, short, longer, longest-at-end es (bytes k, v));
          within = rw longer (longer-within m longest (length (bytes k)) fields.within reach);
          unused = λ none. omega (arith, none, counts);
        }

-- the last pair gets another value
pub last-replaced : {K P V : Type 0} (bytes : K → List ℕ) (b : Builder P V) (last : Option (K × V))
    (all : List (List ℕ × V)) (k : K) (w v : V) → loaded_pairs bytes b last ≡ all → last ≡ Some (k, w)
    → ReplacesLast v all (loaded_pairs bytes b (Some (k, v)))
last-replaced bytes b last all k w v are is = record {
  before = builder_pairs (bytes k) b;
  key = bytes k;
  replaced = w;
  were = sym are ∙ ap (loaded_pairs bytes b) is;
  are = refl;
}
