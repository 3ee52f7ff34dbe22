-- The laws that the ghost fields of visitors name. They are proof terms, and are here since a ghost field can name no
-- lemma of proofs/. The words that they speak of are in Given.antt.
pub use Rattle.rart_nodes.specs.joins.Given.{
  AreVisitors,
  CanDeeper,
  CanGive,
  CanGiveKeys,
  CanGiveValues,
  CanGiveViews,
  CountedOn,
  GivenFirst,
  GivenKeys,
  GivenTried,
  GivenValues,
  GivenViews,
  KeyReserved,
  KeysReserved,
  Throughout,
  ViewReserved,
  ViewsReserved,
  most_count,
}
use Rattle.std.specs.Prelude.{ℕ, ◌≡◌, ◌+◌, ◌≤◌, List, [], ◌∷◌, ◌++◌, length, vec_capacity, Option, Some, None, Result}
use Rattle.std.specs.Prelude.{Ok, Err}
use Rattle.std.specs.Borrow.{Bor}
use Rattle.std.specs.Global.{Vec}
use Rattle.std.proofs.Common.{refl, arith, ap, sym, ◌∙◌, length-append, append_assoc}
use Rattle.std.proofs.lemmas.List.{length-map}
use Rattle.std.specs.List.{FoldsTo}
use Rattle.rart_keys.specs.KeyBytes.{IsWithin}
use Rattle.rart_keys.specs.SortedMap.{values_of}
use Rattle.rart_nodes.specs.declared.node.intersect.join_path.JoinPath.TheVariants.{Nothing, Bytes, Segments}
use Rattle.rart_nodes.specs.declared.node.control.VisitControl.{VisitControl}
use Rattle.rart_nodes.specs.declared.node.control.VisitControl.TheVariants.{Continue, Stop}
use Rattle.rart_nodes.specs.joins.JoinPaths.{Kept, PathReserved, PathGrown, BytesGrown, SegmentsGrown}
use Rattle.rart_nodes.specs.joins.TriedPairs.{TriedOn, TriesEach}
use Rattle.rart_trie.specs.tries.PrefixLaws.{prefix-append, prefix-twice, values-append, values-with_prefix}
use Rattle.rart_trie.specs.tries.Trie.{with_prefix}
use Rattle.rart_nodes.specs.walks.SegmentLaws.{full-append, joined-append, many-joined}
use Rattle.rart_trie.specs.walks.Walk.{joined_bytes}
use Rattle.rart_nodes.specs.walks.PathParts.{lent_segments}

folds-append : {P A : Type 0} (R : P → A → P → Type 0) (p q r : P) (xs ys : List A) → FoldsTo R p xs q
    → FoldsTo R q ys r → FoldsTo R p (xs ++ ys) r
folds-append R p q r [] ys h g = rw h g
folds-append R p q r (x ∷ xs) ys h g = (h.0, h.1, folds-append R h.0 q r xs ys h.2 g)

within-less : (m : Option ℕ) (i j : ℕ) → IsWithin m i → j ≤ i → IsWithin m j
within-less None i j h k = tt
within-less (Some m) i j h k = omega arith

-- reserved capacity of paths
bytes_reserved : (k l : Vec ℕ) (p : List ℕ) (m n : ℕ) → BytesGrown k p l → length k.items + m ≤ vec_capacity k
    → length p + n ≤ m → length l.items + n ≤ vec_capacity l
bytes_reserved k l p m n a b c = omega (arith, a.place, b, c, ap length a.bytes, length-append k.items p)

segments_reserved : (k l : Vec (Bor (List ℕ))) (p : List ℕ) (m n : ℕ) → SegmentsGrown k p l
    → length k.items + m ≤ vec_capacity k → length p + n ≤ m → length l.items + n ≤ vec_capacity l
segments_reserved k l p m n a b c =
    omega (
      arith,
      a.place,
      b,
      c,
      ap length a.segments,
      length-append (lent_segments k.items) a.more,
      length-map k.items
          (λ x. x.now),
      length-map l.items (λ x. x.now),
      many-joined a.more a.full,
      ap length a.bytes,
    )

pub path-reserved : (s t : Kept) (p : List ℕ) (m n : ℕ) → PathGrown s p t → PathReserved s m → length p + n ≤ m
    → PathReserved t n
path-reserved Nothing Nothing p m n a b c = tt
path-reserved Nothing (Bytes l) p m n a b c = absurd a
path-reserved Nothing (Segments l) p m n a b c = absurd a
path-reserved (Bytes k) Nothing p m n a b c = absurd a
path-reserved (Bytes k) (Bytes l) p m n a b c = bytes_reserved k l p m n a b c
path-reserved (Bytes k) (Segments l) p m n a b c = absurd a
path-reserved (Segments k) Nothing p m n a b c = absurd a
path-reserved (Segments k) (Bytes l) p m n a b c = absurd a
path-reserved (Segments k) (Segments l) p m n a b c = segments_reserved k l p m n a b c

pub can_values : {F X : Type 0} (q : F → X → Type 0) → CanDeeper (CanGiveValues q)
can_values q s t p f x w h = h

err-ok : {A B : Type 0} (a : A) (b : B) → ◌≡◌ {A = Result A B} (Err b) (Ok a) → ⊥
err-ok a b h = cc

-- a visitor that ends no walk, by what it gives
throughout : {F X B : Type 0} (reserved : Kept → ℕ → Type 0) (given : Kept → F → List (List ℕ × X) → F → Type 0)
    → ((s : Kept) (n : ℕ) → reserved s n → PathReserved s n)
    → ((s t : Kept) (p : List ℕ) (m n : ℕ) → PathGrown s p t → reserved s m → length p + n ≤ m → reserved t n)
    → ((s : Kept) (f : F) → given s f [] f)
    → ((s : Kept) (f g h : F) (xs ys : List (List ℕ × X)) → given s f xs g → given s g ys h → given s f (xs ++ ys) h)
    → ((s t : Kept) (p : List ℕ) (f g : F) (es : List (List ℕ × X)) → PathGrown s p t → given t f es g
    → given s f (with_prefix p es) g)
    → AreVisitors {B = B} reserved (Throughout given)
throughout reserved given holds keeps none more after = record {
  holds = holds;
  keeps_reserved = keeps;
  gives_none = λ s f. (refl, none s f);
  gives_more = λ s f g h xs ys r a b. (b.0, more s f g h xs ys a.1 b.1);
  gives_end = λ s f g xs ys b a. absurd (err-ok tt b a.0);
  gives_after = λ s t p f g es r w b. (b.0, after s t p f g es w b.1);
}

pub give_values : {F X B : Type 0} (r : F → X → F → Type 0)
    → AreVisitors {B = B} PathReserved (Throughout (GivenValues r))
give_values r = throughout PathReserved (GivenValues r) (λ s n h. h) path-reserved (λ s f. refl)
    (λ s f g h xs ys a b. rw (values-append xs ys) (folds-append r f g h (values_of xs) (values_of ys) a b))
    (λ s t p f g es a b. rw (values-with_prefix p es) b)

keys-hold : (most : Option ℕ) (s : Kept) (n : ℕ) → KeysReserved most s n → PathReserved s n
keys-hold most Nothing n h = absurd h
keys-hold most (Bytes k) n h = h.place
keys-hold most (Segments k) n h = absurd h

keys-reserved : (most : Option ℕ) (s t : Kept) (p : List ℕ) (m n : ℕ) → PathGrown s p t → KeysReserved most s m
    → length p + n ≤ m → KeysReserved most t n
keys-reserved most Nothing t p m n a b c = absurd b
keys-reserved most (Segments k) t p m n a b c = absurd b
keys-reserved most (Bytes k) Nothing p m n a b c = absurd a
keys-reserved most (Bytes k) (Segments l) p m n a b c = absurd a
keys-reserved most (Bytes k) (Bytes l) p m n a b c = record {
  place = bytes_reserved k l p m n a b.place c;
  within = within-less most (length k.items + m) (length l.items + n) b.within
      (omega (arith, c, ap length a.bytes, length-append k.items p));
}

keys-none : {F X : Type 0} (r : F → List ℕ × X → F → Type 0) (s : Kept) (f : F) → GivenKeys r s f [] f
keys-none r Nothing f = tt
keys-none r (Bytes k) f = refl
keys-none r (Segments k) f = tt

keys-more : {F X : Type 0} (r : F → List ℕ × X → F → Type 0) (s : Kept) (f g h : F) (xs ys : List (List ℕ × X))
    → GivenKeys r s f xs g → GivenKeys r s g ys h → GivenKeys r s f (xs ++ ys) h
keys-more r Nothing f g h xs ys a b = tt
keys-more r (Bytes k) f g h xs ys a b = rw (prefix-append k.items xs ys)
    (folds-append r f g h (with_prefix k.items xs) (with_prefix k.items ys) a b)
keys-more r (Segments k) f g h xs ys a b = tt

keys-after : {F X : Type 0} (r : F → List ℕ × X → F → Type 0) (s t : Kept) (p : List ℕ) (f g : F)
    (es : List (List ℕ × X)) → PathGrown s p t → GivenKeys r t f es g → GivenKeys r s f (with_prefix p es) g
keys-after r Nothing t p f g es a b = tt
keys-after r (Segments k) t p f g es a b = tt
keys-after r (Bytes k) Nothing p f g es a b = absurd a
keys-after r (Bytes k) (Segments l) p f g es a b = absurd a
keys-after r (Bytes k) (Bytes l) p f g es a b = rw (prefix-twice k.items p es, ← a.bytes) b

pub can_keys : {F X : Type 0} (q : F → List ℕ × X → Type 0) → CanDeeper (CanGiveKeys q)
can_keys q Nothing Nothing p f x w h = tt
can_keys q Nothing (Bytes l) p f x w h = absurd w
can_keys q Nothing (Segments l) p f x w h = tt
can_keys q (Bytes k) Nothing p f x w h = tt
can_keys q (Bytes k) (Bytes l) p f x w h = rw (w.bytes, append_assoc k.items p x.0) h
can_keys q (Bytes k) (Segments l) p f x w h = tt
can_keys q (Segments k) Nothing p f x w h = tt
can_keys q (Segments k) (Bytes l) p f x w h = absurd w
can_keys q (Segments k) (Segments l) p f x w h = tt

pub give_keys : {F X B : Type 0} (most : Option ℕ) (r : F → List ℕ × X → F → Type 0)
    → AreVisitors {B = B} (KeysReserved most) (Throughout (GivenKeys r))
give_keys most r = throughout (KeysReserved most) (GivenKeys r) (keys-hold most) (keys-reserved most) (keys-none r)
    (keys-more r) (keys-after r)

-- until one of the pairs ends the walk
module _ {F X E : Type 0} (R : F → X → Result VisitControl E → F → Type 0) where
  tried-more : (answer : Result VisitControl E) (f : F) (M N : F → Type 0)
      (r : Result (Unit {0}) (Result (Unit {0}) E)) (g h : F) → (M f → N f) → TriedOn answer f M (Ok tt) g
      → TriedOn answer f N r h
  tried-more (Ok Continue) f M N r g h more a = more a
  tried-more (Ok Stop) f M N r g h more a = absurd (err-ok tt (Ok tt) (sym a.0))
  tried-more (Err e) f M N r g h more a = absurd (err-ok tt (Err e) (sym a.0))

  tries-append : (f g h : F) (xs ys : List X) (r : Result (Unit {0}) (Result (Unit {0}) E))
      → TriesEach R f xs (Ok tt) g → TriesEach R g ys r h → TriesEach R f (xs ++ ys) r h
  tries-append f g h [] ys r a b = rw a.1 b
  tries-append f g h (x ∷ xs) ys r a b = (
    a.0,
    (
      a.1.0,
      (
        a.1.1.0,
        tried-more a.0 a.1.0 (λ j. TriesEach R j xs (Ok tt) g) (λ j. TriesEach R j (xs ++ ys) r h) r g h
            (λ m. tries-append a.1.0 g h xs ys r m b) a.1.1.1,
      ),
    ),
  )

  tried-end : (answer : Result VisitControl E) (f : F) (M N : F → Type 0)
      (r : Result (Unit {0}) (Result (Unit {0}) E)) (g : F) → (M f → N f) → TriedOn answer f M r g
      → TriedOn answer f N r g
  tried-end (Ok Continue) f M N r g more a = more a
  tried-end (Ok Stop) f M N r g more a = a
  tried-end (Err e) f M N r g more a = a

  tries-end : (f g : F) (xs ys : List X) (b : Result (Unit {0}) E) → TriesEach R f xs (Err b) g
      → TriesEach R f (xs ++ ys) (Err b) g
  tries-end f g [] ys b a = absurd (err-ok tt b a.0)
  tries-end f g (x ∷ xs) ys b a = (
    a.0,
    (
      a.1.0,
      (
        a.1.1.0,
        tried-end a.0 a.1.0 (λ j. TriesEach R j xs (Err b) g) (λ j. TriesEach R j (xs ++ ys) (Err b) g) (Err b) g
            (λ m. tries-end a.1.0 g xs ys b m) a.1.1.1,
      ),
    ),
  )

module _ {F X E : Type 0} (R : F → List ℕ × X → Result VisitControl E → F → Type 0) where
  tried-none : (s : Kept) (f : F) → GivenTried R s f [] (Ok tt) f
  tried-none Nothing f = tt
  tried-none (Bytes k) f = (refl, refl)
  tried-none (Segments k) f = tt

  tried-both : (s : Kept) (f g h : F) (xs ys : List (List ℕ × X)) (r : Result (Unit {0}) (Result (Unit {0}) E))
      → GivenTried R s f xs (Ok tt) g → GivenTried R s g ys r h → GivenTried R s f (xs ++ ys) r h
  tried-both Nothing f g h xs ys r a b = tt
  tried-both (Bytes k) f g h xs ys r a b = rw (prefix-append k.items xs ys)
      (tries-append R f g h (with_prefix k.items xs) (with_prefix k.items ys) r a b)
  tried-both (Segments k) f g h xs ys r a b = tt

  tried-ends : (s : Kept) (f g : F) (xs ys : List (List ℕ × X)) (b : Result (Unit {0}) E)
      → GivenTried R s f xs (Err b) g → GivenTried R s f (xs ++ ys) (Err b) g
  tried-ends Nothing f g xs ys b a = tt
  tried-ends (Bytes k) f g xs ys b a = rw (prefix-append k.items xs ys)
      (tries-end R f g (with_prefix k.items xs) (with_prefix k.items ys) b a)
  tried-ends (Segments k) f g xs ys b a = tt

  tried-after : (s t : Kept) (p : List ℕ) (f g : F) (es : List (List ℕ × X))
      (r : Result (Unit {0}) (Result (Unit {0}) E)) → PathGrown s p t → GivenTried R t f es r g
      → GivenTried R s f (with_prefix p es) r g
  tried-after Nothing t p f g es r a b = tt
  tried-after (Segments k) t p f g es r a b = tt
  tried-after (Bytes k) Nothing p f g es r a b = absurd a
  tried-after (Bytes k) (Segments l) p f g es r a b = absurd a
  tried-after (Bytes k) (Bytes l) p f g es r a b = rw (prefix-twice k.items p es, ← a.bytes) b

  pub give_tried : (most : Option ℕ) → AreVisitors (KeysReserved most) (GivenTried R)
  give_tried most = record {
    holds = keys-hold most;
    keeps_reserved = keys-reserved most;
    gives_none = tried-none;
    gives_more = tried-both;
    gives_end = tried-ends;
    gives_after = tried-after;
  }

first-more : {F X : Type 0} (s : Kept) (f g h : F) (xs ys : List (List ℕ × X)) (r : Result (Unit {0}) (Unit {0}))
    → GivenFirst s f xs (Ok tt) g → GivenFirst s g ys r h → GivenFirst s f (xs ++ ys) r h
first-more s f g h [] ys r a b = rw a.1 b
first-more s f g h (x ∷ xs) ys r a b = absurd (err-ok tt tt (sym a.0))

first-end : {F X : Type 0} (s : Kept) (f g : F) (xs ys : List (List ℕ × X)) (b : Unit {0})
    → GivenFirst s f xs (Err b) g → GivenFirst s f (xs ++ ys) (Err b) g
first-end s f g [] ys b a = absurd (err-ok tt b a.0)
first-end s f g (x ∷ xs) ys b a = a

first-after : {F X : Type 0} (s t : Kept) (p : List ℕ) (f g : F) (es : List (List ℕ × X))
    (r : Result (Unit {0}) (Unit {0})) → PathGrown s p t → GivenFirst t f es r g
    → GivenFirst s f (with_prefix p es) r g
first-after s t p f g [] r w b = b
first-after s t p f g (e ∷ es) r w b = b

pub give_first : {F X : Type 0} → AreVisitors {F = F} {X = X} PathReserved GivenFirst
give_first = record {
  holds = λ s n h. h;
  keeps_reserved = path-reserved;
  gives_none = λ s f. (refl, refl);
  gives_more = first-more;
  gives_end = first-end;
  gives_after = first-after;
}

views-hold : (s : Kept) (n : ℕ) → ViewsReserved s n → PathReserved s n
views-hold Nothing n h = absurd h
views-hold (Bytes k) n h = absurd h
views-hold (Segments k) n h = h.place

views-reserved : (s t : Kept) (p : List ℕ) (m n : ℕ) → PathGrown s p t → ViewsReserved s m → length p + n ≤ m
    → ViewsReserved t n
views-reserved Nothing t p m n a b c = absurd b
views-reserved (Bytes k) t p m n a b c = absurd b
views-reserved (Segments k) Nothing p m n a b c = absurd a
views-reserved (Segments k) (Bytes l) p m n a b c = absurd a
views-reserved (Segments k) (Segments l) p m n a b c = record {
  place = segments_reserved k l p m n a b.place c;
  fits = omega (
    arith,
    c,
    b.fits,
    ap (λ z. length (joined_bytes z)) a.segments,
    ap length
        (joined-append (lent_segments k.items) a.more),
    length-append (joined_bytes (lent_segments k.items)) (joined_bytes a.more),
    ap
        length a.bytes,
  );
  full = rw a.segments (full-append (lent_segments k.items) a.more b.full a.full);
}

views-none : {F X : Type 0} (r : F → List ℕ × X → F → Type 0) (s : Kept) (f : F) → GivenViews r s f [] f
views-none r Nothing f = tt
views-none r (Bytes k) f = tt
views-none r (Segments k) f = refl

views-more : {F X : Type 0} (r : F → List ℕ × X → F → Type 0) (s : Kept) (f g h : F) (xs ys : List (List ℕ × X))
    → GivenViews r s f xs g → GivenViews r s g ys h → GivenViews r s f (xs ++ ys) h
views-more r Nothing f g h xs ys a b = tt
views-more r (Bytes k) f g h xs ys a b = tt
views-more r (Segments k) f g h xs ys a b = let p = joined_bytes (lent_segments k.items) in
    rw (prefix-append p xs ys) (folds-append r f g h (with_prefix p xs) (with_prefix p ys) a b)

views-after : {F X : Type 0} (r : F → List ℕ × X → F → Type 0) (s t : Kept) (p : List ℕ) (f g : F)
    (es : List (List ℕ × X)) → PathGrown s p t → GivenViews r t f es g → GivenViews r s f (with_prefix p es) g
views-after r Nothing t p f g es a b = tt
views-after r (Bytes k) t p f g es a b = tt
views-after r (Segments k) Nothing p f g es a b = absurd a
views-after r (Segments k) (Bytes l) p f g es a b = absurd a
views-after r (Segments k) (Segments l) p f g es a b =
    let whole : joined_bytes (lent_segments l.items) ≡ joined_bytes (lent_segments k.items) ++ p = ap joined_bytes
    a.segments
    ∙ joined-append (lent_segments k.items) a.more ∙ ap (λ z. joined_bytes (lent_segments k.items) ++ z) a.bytes in
    rw (prefix-twice (joined_bytes (lent_segments k.items)) p es, ← whole) b

pub can_views : {F X : Type 0} (q : F → List ℕ × X → Type 0) → CanDeeper (CanGiveViews q)
can_views q Nothing Nothing p f x w h = tt
can_views q Nothing (Bytes l) p f x w h = tt
can_views q Nothing (Segments l) p f x w h = absurd w
can_views q (Bytes k) Nothing p f x w h = tt
can_views q (Bytes k) (Bytes l) p f x w h = tt
can_views q (Bytes k) (Segments l) p f x w h = absurd w
can_views q (Segments k) Nothing p f x w h = tt
can_views q (Segments k) (Bytes l) p f x w h = tt
can_views q (Segments k) (Segments l) p f x w h =
    let whole : joined_bytes (lent_segments l.items) ≡ joined_bytes (lent_segments k.items) ++ p = ap joined_bytes
    w.segments
    ∙ joined-append (lent_segments k.items) w.more ∙ ap (λ z. joined_bytes (lent_segments k.items) ++ z) w.bytes in
    rw (whole, append_assoc (joined_bytes (lent_segments k.items)) p x.0) h

pub give_views : {F X B : Type 0} (r : F → List ℕ × X → F → Type 0)
    → AreVisitors {B = B} ViewsReserved (Throughout (GivenViews r))
give_views r = throughout ViewsReserved (GivenViews r) views-hold views-reserved (views-none r) (views-more r)
    (views-after r)
