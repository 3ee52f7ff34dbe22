use Rattle.std.proofs.Common.{sym, ap, ◌∙◌, ◌≡◌, refl, Option, None, Some, ℕ, List}
use Rattle.std.specs.Prelude.{OnSome}
use Rattle.rart_parts.specs.Entries.{child_at, replaced_at, sorted_entries}
use Rattle.rart_trie.specs.declared.node.storage.Kind.{Kind}
use Rattle.rart_trie.specs.declared.node.storage.Kind.TheVariants.{Node16, Node48, Node256}
use Rattle.rart_trie.specs.storages.Stored.{child_entries, storage_capacity, stored_prefix, stored_value}
use Rattle.rart_trie.specs.storages.Stored.{StoresLent, StoresSame}
use Rattle.rart_trie.proofs.node.storage.Storage.seek_child_mut.Goals as goal

-- a storage and what it ends as are s and t, of one kind
module _ {P V N : Type 0} {old s new t : Kind P V N} {es : List (ℕ × N)} {v : Option V} (old-is : old ≡ s)
    (new-is : new ≡ t) (same : storage_capacity t ≡ storage_capacity s) (es-are : es ≡ child_entries s)
    (value-is : v ≡ stored_value s) (prefix-is : stored_prefix t ≡ stored_prefix s) where
  stores_lent : {A : Type 0} (b : ℕ) (w : N) (r : Option A)
      → OnSome r ((child_entries t ≡ replaced_at b w es) × (stored_value t ≡ v)) → StoresLent b w r old new
  stores_lent b w None lent = tt
  stores_lent b w (Some x) lent = rw (old-is, new-is)
      (same, lent.0 ∙ ap (replaced_at b w) es-are, lent.1 ∙ value-is, prefix-is)

  stores_same : (child_entries t ≡ es) × (stored_value t ≡ v) → StoresSame old new
  stores_same kept = rw (old-is, new-is) (same, kept.0 ∙ es-are, kept.1 ∙ value-is, prefix-is)

pub returns-in-Node16 : goal.returns-in-Node16
returns-in-Node16 g c =
    let es-are = ap (λ m. m.entries) c.in-Node16.map-is in
    let value-is = ap (λ m. m.extra) c.in-Node16.map-is in (
      (
        refl,
        λ w. stores_lent {t = Node16 c.in-Node16.field-0 (c.seek_child_mut.follows.lender w)}
            (sym c.self.view_is ∙ c.in-Node16.is) (rw c.in-Node16.is refl)
            refl es-are value-is refl c.args.b w c.seek_child_mut.result
            (c.seek_child_mut.follows.holds w),
        stores_same {t = Node16 c.in-Node16.field-0 c.seek_child_mut.follows.lender-at-none}
            (sym c.self.view_is ∙ c.in-Node16.is) (rw c.in-Node16.is refl)
            refl es-are value-is refl c.seek_child_mut.follows.holds-at-none,
      ),
      record {
        writes_back = tt;
        value = c.seek_child_mut.ensures.value
            ∙ ap (child_at c.args.b) (es-are ∙ ap child_entries (sym c.in-Node16.is ∙ c.self.view_is));
      },
    )

pub returns-in-Node48 : goal.returns-in-Node48
returns-in-Node48 g c =
    let es-are = ap (λ m. sorted_entries m.entries) c.in-Node48.map-is in
    let value-is = ap (λ m. m.extra) c.in-Node48.map-is in (
      (
        refl,
        λ w. stores_lent {t = Node48 c.in-Node48.field-0 (c.seek_child_mut-in-Node48.follows.lender w)}
            (sym c.self.view_is ∙ c.in-Node48.is) (rw c.in-Node48.is refl)
            refl es-are value-is refl c.args.b w c.seek_child_mut-in-Node48.result
            (c.seek_child_mut-in-Node48.follows.holds w),
        stores_same {t = Node48 c.in-Node48.field-0 c.seek_child_mut-in-Node48.follows.lender-at-none}
            (sym c.self.view_is ∙ c.in-Node48.is) (rw c.in-Node48.is refl)
            refl es-are value-is refl c.seek_child_mut-in-Node48.follows.holds-at-none,
      ),
      record {
        writes_back = tt;
        value = c.seek_child_mut-in-Node48.ensures.value
            ∙ ap (child_at c.args.b) (es-are ∙ ap child_entries (sym c.in-Node48.is ∙ c.self.view_is));
      },
    )

pub returns-in-Node256 : goal.returns-in-Node256
returns-in-Node256 g c =
    let es-are = ap (λ m. m.entries) c.in-Node256.map-is in
    let value-is = ap (λ m. m.extra) c.in-Node256.map-is in (
      (
        refl,
        λ w. stores_lent {t = Node256 c.in-Node256.field-0 (c.seek_child_mut-in-Node256.follows.lender w)}
            (sym c.self.view_is ∙ c.in-Node256.is) (rw c.in-Node256.is refl)
            refl es-are value-is refl c.args.b w c.seek_child_mut-in-Node256.result
            (c.seek_child_mut-in-Node256.follows.holds w),
        stores_same {t = Node256 c.in-Node256.field-0 c.seek_child_mut-in-Node256.follows.lender-at-none}
            (sym c.self.view_is ∙ c.in-Node256.is) (rw c.in-Node256.is refl)
            refl es-are value-is refl c.seek_child_mut-in-Node256.follows.holds-at-none,
      ),
      record {
        writes_back = tt;
        value = c.seek_child_mut-in-Node256.ensures.value
            ∙ ap (child_at c.args.b) (es-are ∙ ap child_entries (sym c.in-Node256.is ∙ c.self.view_is));
      },
    )
