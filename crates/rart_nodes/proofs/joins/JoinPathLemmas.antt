-- How what is kept of a path stays, continues and returns.
use Rattle.std.proofs.Common.{◌≡◌, ℕ, ◌≤◌, ◌==◌, true, false, List, [], ◌∷◌, ◌++◌, length, take, vec_capacity, refl}
use Rattle.std.proofs.Common.{arith, sym, ap, ◌∙◌}
use Rattle.std.proofs.lemmas.List.{append_assoc, append-nil, length-map, map-append, take-map}
use Rattle.std.proofs.Math.Seq.{take-append_seam}
use Rattle.std.specs.Borrow.{Bor}
use Rattle.std.specs.Global.{Vec}
use Rattle.rart_nodes.specs.declared.node.intersect.join_path.JoinPath.TheVariants.{Nothing, Bytes, Segments}
use Rattle.rart_keys.proofs.strings.ByteOrder.{eq-yes}
use Rattle.rart_nodes.specs.joins.JoinPaths.{Kept, PathGrown, PathCut, BytesGrown, BytesCut, SegmentsGrown, SegmentsCut}
use Rattle.rart_nodes.specs.joins.JoinPaths.{path_mark}
use Rattle.rart_nodes.specs.walks.SegmentLaws.{joined-append, full-append}
use Rattle.rart_trie.specs.walks.Walk.{joined_bytes}
use Rattle.rart_nodes.specs.walks.PathParts.{lent_segments}
use Rattle.rart_nodes.specs.walks.ViewSegments.{all_have_bytes}

pub path-stays : (s : Kept) → PathGrown s [] s
path-stays Nothing = tt
path-stays (Bytes k) = record { bytes = sym (append-nil k.items); place = omega arith }
path-stays (Segments k) = record {
  more = [];
  segments = sym (append-nil (lent_segments k.items));
  bytes = refl;
  full
      = refl;
  place = omega arith;
}

has-bytes : (p : List ℕ) → false ≡ (length p == 0) → all_have_bytes (p ∷ []) ≡ true
has-bytes [] h = absurd (cc (h, eq-yes 0 0 refl))
has-bytes (b ∷ p) h = refl

pub segments-one : (k l : Vec (Bor (List ℕ))) (p : Bor (List ℕ)) → l.items ≡ k.items ++ p ∷ []
    → vec_capacity k ≤ vec_capacity l → false ≡ (length p.now == 0) → SegmentsGrown k p.now l
segments-one k l p e c h = record {
  more = p.now ∷ [];
  segments = ap lent_segments e
      ∙ map-append (λ x. x.now) k.items (p ∷ []);
  bytes = append-nil p.now;
  full = has-bytes p.now h;
  place = c;
}

bytes-on : (k l m : Vec ℕ) (p q : List ℕ) → BytesGrown k p l → BytesGrown l q m → BytesGrown k (p ++ q) m
bytes-on k l m p q a b = record {
  bytes = b.bytes ∙ ap (λ z. z ++ q) a.bytes ∙ append_assoc k.items p q;
  place
      = omega (arith, a.place, b.place);
}

segments-on : (k l m : Vec (Bor (List ℕ))) (p q : List ℕ) → SegmentsGrown k p l → SegmentsGrown l q m
    → SegmentsGrown k (p ++ q) m
segments-on k l m p q a b = record {
  more = a.more ++ b.more;
  segments = b.segments ∙ ap (λ z. z ++ b.more) a.segments ∙ append_assoc (lent_segments k.items) a.more b.more;
  bytes = joined-append a.more b.more ∙ ap (λ z. z ++ joined_bytes b.more) a.bytes ∙ ap (λ z. p ++ z) b.bytes;
  full = full-append a.more b.more a.full b.full;
  place = omega (arith, a.place, b.place);
}

pub path-on : (s t u : Kept) (p q : List ℕ) → PathGrown s p t → PathGrown t q u → PathGrown s (p ++ q) u
path-on Nothing Nothing Nothing p q a b = tt
path-on Nothing Nothing (Bytes m) p q a b = absurd b
path-on Nothing Nothing (Segments m) p q a b = absurd b
path-on Nothing (Bytes l) u p q a b = absurd a
path-on Nothing (Segments l) u p q a b = absurd a
path-on (Bytes k) Nothing u p q a b = absurd a
path-on (Bytes k) (Bytes l) Nothing p q a b = absurd b
path-on (Bytes k) (Bytes l) (Bytes m) p q a b = bytes-on k l m p q a b
path-on (Bytes k) (Bytes l) (Segments m) p q a b = absurd b
path-on (Bytes k) (Segments l) u p q a b = absurd a
path-on (Segments k) Nothing u p q a b = absurd a
path-on (Segments k) (Bytes l) u p q a b = absurd a
path-on (Segments k) (Segments l) Nothing p q a b = absurd b
path-on (Segments k) (Segments l) (Bytes m) p q a b = absurd b
path-on (Segments k) (Segments l) (Segments m) p q a b = segments-on k l m p q a b

bytes-back : (k l m : Vec ℕ) (p : List ℕ) → BytesGrown k p l → BytesCut (length k.items) l m → BytesGrown k [] m
bytes-back k l m p a b = record {
  bytes = b.bytes ∙ ap (λ z. take (length k.items) z) a.bytes
      ∙ take-append_seam k.items p ∙ sym (append-nil k.items);
  place = omega (arith, a.place, b.place);
}

segments-back : (k l m : Vec (Bor (List ℕ))) (p : List ℕ) → SegmentsGrown k p l → SegmentsCut (length k.items) l m
    → SegmentsGrown k [] m
segments-back k l m p a b =
    let many : length k.items ≡ length (lent_segments k.items) = sym (length-map k.items (λ x. x.now)) in
    let same : lent_segments m.items ≡ lent_segments k.items
    = ap lent_segments b.segments ∙ sym (take-map (λ x. x.now) (length k.items) l.items)
    ∙ ap (λ z. take (length k.items) z) a.segments ∙ ap (λ n. take n (lent_segments k.items ++ a.more)) many
    ∙ take-append_seam (lent_segments k.items) a.more in
    record {
      more = [];
      segments = same ∙ sym (append-nil (lent_segments k.items));
      bytes = refl;
      full = refl;
      place
          = omega (arith, a.place, b.place);
    }

pub path-back : (s t u : Kept) (p : List ℕ) → PathGrown s p t → PathCut (path_mark s) t u → PathGrown s [] u
path-back Nothing Nothing Nothing p a b = tt
path-back Nothing Nothing (Bytes m) p a b = absurd b
path-back Nothing Nothing (Segments m) p a b = absurd b
path-back Nothing (Bytes l) u p a b = absurd a
path-back Nothing (Segments l) u p a b = absurd a
path-back (Bytes k) Nothing u p a b = absurd a
path-back (Bytes k) (Bytes l) Nothing p a b = absurd b
path-back (Bytes k) (Bytes l) (Bytes m) p a b = bytes-back k l m p a b
path-back (Bytes k) (Bytes l) (Segments m) p a b = absurd b
path-back (Bytes k) (Segments l) u p a b = absurd a
path-back (Segments k) Nothing u p a b = absurd a
path-back (Segments k) (Bytes l) u p a b = absurd a
path-back (Segments k) (Segments l) Nothing p a b = absurd b
path-back (Segments k) (Segments l) (Bytes m) p a b = absurd b
path-back (Segments k) (Segments l) (Segments m) p a b = segments-back k l m p a b
