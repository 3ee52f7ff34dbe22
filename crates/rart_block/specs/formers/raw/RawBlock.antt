-- `RawBlock` as a type that may hold the type that holds it, by its items.
use Rattle.std.specs.Prelude.{◌≡◌, ℕ, suc, ◌+◌, ◌≤◌, Bool, true, false, List, [], ◌∷◌, map, length}
use mathlib.Core.Path.{refl, sym, subst, ap, ◌∙◌}
use mathlib.Core.HLevel.{is_prop→PathP}
use mathlib.Core.Former.{Former, Count, Row, over, this, list, list_count, list_get, children}
use native.Mathlib.Bridge.{le_prop}
use lib.ListN.{length-map}
use base.Stored.{Gv, gcons}
use base.Fraction.{full_share}
use base.Fml.{Fml, ftrue, fsep, fwand}
use mir.Syntax.{Ty, ty_array, ty_struct, tcons, tnil}
use mir.Raw.{raw}
use prog.Memory.{size, align, up}
use denote.RattleType.{RattleType}
use denote.Param.{value_of}
use denote.Memory.{lone}
use denote.RawPtr.{Ptr, room_for, lies_at, ◌+ₚ◌}
use denote.Sharing.{beside}
use denote.HoleLaws.{Alike}
use denote.HolePlaces.{Recodes}
use denote.Hole.Carrier.{listed, list-listed}
use denote.Param.Weighed.{Weighed, most, List-puts}
use denote.Struct.Struct.{Struct}
use denote.Struct.Owning.{shape, to}
use denote.Struct.Lending.{lent_at}
use Rattle.std_alloc.specs.Vec.Recursive.{buffer_placed, lent_placed, codes_placed}
use Rattle.std_alloc.specs.Vec.Ownership.{lodged, vec_shares}
use Rattle.rart_block.specs.declared.raw.RawBlock.{RawBlock}
use Rattle.rart_block.specs.contracts.raw.RawBlock as C
use Rattle.rart_block.specs.RawLoans.{with_items}
use Rattle.rart_block.specs.Memory.{head_offset, places_owned, block_owned, places_shared, block_shared}
use Rattle.rart_block.specs.Memory.{global_token}

-- as many items as before fit
pub still_few : {X Y : Type 0} {w : ℕ} (xs : List X) (ys : List Y) → length ys ≡ length xs → length xs ≤ w
    → length ys ≤ w
still_few {w = w} xs ys e few = subst (λ n. n ≤ w) (sym e) few

abbrev pub mapped : {H X Y : Type 0} {w : ℕ} → (X → Y) → RawBlock H X w → RawBlock H Y w
mapped h b = with_items b (map h b.items) (still_few b.items (map h b.items) (length-map b.items h) b.few)

-- a path between lists of items is one between blocks of them
abbrev pub along : {H X Y : Type 0} {w : ℕ} (b : RawBlock H X w) (xs ys : List Y) (e : xs ≡ ys) (p : length xs ≤ w)
    (q : length ys ≤ w) → with_items b xs p ≡ with_items b ys q
along {w = w} b xs ys e p q =
    λ i. with_items b (e i) (is_prop→PathP (λ j. length (e j) ≤ w) (λ j r s. le_prop r s) p q i)

module _ (g : Former {0}) (H : Type 0) (w : ℕ) where
  -- the items of a shape, from a row that begins with what they hold
  abbrev pub read : (X : Type 0) (xs : List g.Shape) (n : Count) → Row X (list_count g xs n) → List (g.Of X) × Row X n
  read X xs n v = list_get g X xs n v

  pub length-read : (X : Type 0) (xs : List g.Shape) (n : Count) (v : Row X (list_count g xs n))
      → length (read X xs n v).0 ≡ length xs
  length-read X [] n v = refl
  length-read X (x ∷ xs) n v = ap suc (length-read X xs n (g.get X x (list_count g xs n) v).1)

  abbrev pub get : (X : Type 0) (b : RawBlock H g.Shape w) (n : Count) → Row X (list_count g b.items n)
      → RawBlock H (g.Of X) w × Row X n
  get X b n v = let r = read X b.items n v in
      (with_items b r.0 (still_few b.items r.0 (length-read X b.items n v) b.few), r.1)

  abbrev pub put : (X : Type 0) (b : RawBlock H (g.Of X) w) (n : Count) → Row X n
      → Row X (list_count g (map (g.shape X) b.items) n)
  put X b = (list g).put X b.items

  pub get-put : (X : Type 0) (b : RawBlock H (g.Of X) w) (n : Count) (v : Row X n)
      → get X (mapped (g.shape X) b) n (put X b n v) ≡ (b, v)
  get-put X b n v = let e = (list g).get-put X b.items n v in
      λ i. (along b _ _ (λ j. (e j).0) (get X (mapped (g.shape X) b) n (put X b n v)).0.few b.few i, (e i).1)

  pub put-get : (X : Type 0) (b : RawBlock H g.Shape w) (n : Count) (v : Row X (list_count g b.items n))
      → ◌≡◌ {A = (c : RawBlock H g.Shape w) × Row X (list_count g c.items n)}
      (mapped (g.shape X) (get X b n v).0, put X (get X b n v).0 n (get X b n v).1) (b, v)
  put-get X b n v = let e = (list g).put-get X b.items n v in
      λ i. (along b _ _ (λ j. (e j).0) (mapped (g.shape X) (get X b n v).0).few b.few i, (e i).1)

  pub get-map : (X Y : Type 0) (h : X → Y) (b : RawBlock H g.Shape w) (n : Count) (v : Row X (list_count g b.items n))
      → get Y b n (over h (list_count g b.items n) v)
      ≡ (mapped (g.map X Y h) (get X b n v).0, over h n (get X b n v).1)
  get-map X Y h b n v = let e = (list g).get-map X Y h b.items n v in
      λ i. (
        along b _ _ (λ j. (e j).0) (get Y b n (over h (list_count g b.items n) v)).0.few
            (mapped (g.map X Y h) (get X b n v).0).few i,
        (e i).1,
      )

  abbrev pub the_former : Former {0}
  the_former = record {
    Of = λ X. RawBlock H (g.Of X) w;
    Shape = RawBlock H g.Shape w;
    count = λ b. list_count g b.items;
    shape = λ X. mapped (g.shape X);
    put = put;
    get = get;
    map = λ X Y h. mapped (g.map X Y h);
    get-put = get-put;
    put-get = put-get;
    get-map = get-map;
  }

abbrev pub the_weighed : {g : Former {0}} → Weighed g → (H : Type 0) (w : ℕ) → Weighed (the_former g H w)
the_weighed k H w = record {
  weight = λ X size b. most (k.weight X size) b.items;
  puts = λ X size b. List-puts k X size b.items;
}

abbrev pub the_items : (H : Type 0) (w : ℕ) (X : Type 0) → RawBlock H X w → List X
the_items H w X b = b.items

pub the_items_listed : (H : Type 0) (w : ℕ) (X : Type 0) (b : RawBlock H X w)
    → listed _ (children (the_former this H w) X b) ≡ the_items H w X b
the_items_listed H w X b = list-listed X b.items

module _ (H : RattleType) (w : ℕ) (R R' : RattleType) (h : R.Denot → R'.Denot) (a : Alike R R' h) where
  -- the layout of the items' type is the same
  abbrev ν : lone R'.mir ≡ lone R.mir
  ν = λ i. lone (a.mir_same i)

  abbrev head_at : ℕ
  head_at = head_offset H R w

  abbrev places_at : Ty → ℕ
  places_at τ = up (align τ) (head_at + size (lone H.mir))

  abbrev block_of : Ty → Ty
  block_of τ = raw (ty_struct [] (tcons (lone H.mir) (tcons (ty_array τ w) tnil)))

  abbrev deed_of : (Ty → Ptr → Fml) → Ptr → Ty → Fml
  deed_of token p τ = fsep (token (block_of τ) p) (fwand (fsep (room_for (raw (lone H.mir)) (p +ₚ head_at))
      (room_for (raw (ty_array τ w)) (p +ₚ places_at τ))) (room_for (block_of τ) p))

  places_placed : (p : Ptr) (xs : List R.Denot) (apart : Bool)
      → places_owned H R' w p (map h xs) apart ≡ places_owned H R w p xs apart
  places_placed p xs true = refl
  places_placed p xs false = (λ i. lodged R' (p +ₚ places_at (ν i)) (length-map xs h i) w (map h xs))
      ∙ buffer_placed R R' h a (λ _ _. ftrue) (p +ₚ places_at (lone R.mir)) (length xs) w xs

  owned_placed : (token : Ty → Ptr → Fml) (p : Ptr) (x : H.Denot) (xs : List R.Denot) (apart : Bool)
      → block_owned H R' w token p x (map h xs) apart ≡ block_owned H R w token p x xs apart
  owned_placed token p x xs apart =
      λ i. fsep (lies_at H full_share (p +ₚ head_at) x) (fsep (places_placed p xs apart i) (deed_of token p (ν i)))

  seen_placed : (p : Ptr) (xs : List R.Denot) (apart : Bool)
      → places_shared H R' w p (map h xs) apart ≡ places_shared H R w p xs apart
  seen_placed p xs true = refl
  seen_placed p xs false = (λ i. vec_shares R' (p +ₚ places_at (ν i)) (length-map xs h i) w (map h xs))
      ∙ lent_placed R R' h a (p +ₚ places_at (lone R.mir)) (length xs) w xs

  shared_placed : (p : Ptr) (x : H.Denot) (xs : List R.Denot) (apart : Bool)
      → block_shared H R' w p x (map h xs) apart ≡ block_shared H R w p x xs apart
  shared_placed p x xs apart = λ i. beside (lent_at H (p +ₚ head_at) x) (seen_placed p xs apart i)

-- in the third part of a code
pub in_third : {a b x y c : Gv} → x ≡ y → gcons a (gcons b (gcons x c)) ≡ gcons a (gcons b (gcons y c))
in_third {a} {b} {c = c} e = λ i. gcons a (gcons b (gcons (e i) c))

module _ (H W R R' : RattleType) (h : R.Denot → R'.Denot) where
  abbrev w : ℕ
  w = value_of W

  pub the_places : Alike R R' h
      → Alike (C.the_row H R W) (C.the_row H R' W) ((the_former this H.Denot w).map R.Denot R'.Denot h)
  the_places a = record {
    mir_same = refl;
    own_same = λ b i vs. fsep ((Struct (shape (C.the_type H R W))).own_val (to (C.the_type H R W) b) vs)
        (owned_placed H w R R' h a global_token b.ptr b.head b.items b.apart i);
    shr_same = λ b i k o. beside ((Struct (shape (C.the_type H R W))).shr_at (to (C.the_type H R W) b) k o)
        (shared_placed H w R R' h a b.ptr b.head b.items b.apart i);
  }

  pub the_codes_placed : Recodes R R' h
      → Recodes (C.the_row H R W) (C.the_row H R' W) ((the_former this H.Denot w).map R.Denot R'.Denot h)
  the_codes_placed e b = in_third (codes_placed R.coded.code R'.coded.code h e b.items)
