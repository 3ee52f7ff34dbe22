-- Entries that are moved one by one, in any order, from one map to another.
use Rattle.std.proofs.Common.{◌≡◌, ℕ, ◌<◌, ◌≤◌, ◌+◌, cond, eqb, false, List, [], Option, Some, None, length, sym, ap}
use Rattle.std.proofs.Common.{◌∙◌, refl, arith, ⊎_elim, subst}
use Rattle.std.proofs.lemmas.Bool.Decides.{eqb_tells}
use Rattle.rart_parts.specs.Entries.{child_at, with_entry, without_byte, BytesAscend}
use Rattle.rart_parts.proofs.entries.EntryLemmas.{same_lookups, child_at-with_entry, child_at-without_byte}
use Rattle.rart_parts.proofs.entries.EntryLemmas.{length-with_entry}
use Rattle.rart_parts.proofs.entries.EntryLemmas.{length-without_byte, with_entry-ascends, without_byte-ascends}

-- the first of two answers
abbrev either : {X : Type 0} → Option X → Option X → Option X
either None o = o
either (Some x) o = Some x

-- a map in two parts that share no byte, each in order
pub record IsSplit {X : Type 0} (whole moved rest : List (ℕ × X)) : Type 0 where
  pub reads : (b : ℕ) → child_at b whole ≡ either (child_at b moved) (child_at b rest)
  pub apart : (b : ℕ) (x : X) → child_at b rest ≡ Some x → child_at b moved ≡ None
  pub count : length moved + length rest ≡ length whole
  pub whole_ascends : BytesAscend whole
  pub moved_ascends : BytesAscend moved
  pub rest_ascends : BytesAscend rest

none_some : {X : Type 0} {x : X} → None ≡ Some x → ⊥
none_some h = cc

either_none : {X : Type 0} (o : Option X) → either o None ≡ o
either_none None = refl
either_none (Some x) = refl

pub split_start : {X : Type 0} (whole moved : List (ℕ × X)) → BytesAscend whole → moved ≡ [] → IsSplit whole moved whole
split_start whole moved a e = record {
  reads = λ b. sym (ap (λ l. either (child_at b l) (child_at b whole)) e);
  apart = λ b x h. ap (child_at b) e;
  count = omega (arith, ap length e);
  whole_ascends = a;
  moved_ascends = subst BytesAscend (sym e) tt;
  rest_ascends = a;
}

pub split_done : {X : Type 0} (whole moved rest : List (ℕ × X)) → IsSplit whole moved rest → rest ≡ [] → moved ≡ whole
split_done whole moved rest s e =
    same_lookups moved whole s.moved_ascends s.whole_ascends
    (λ b. sym (s.reads b ∙ ap (λ l. either (child_at b moved) (child_at b l)) e ∙ either_none (child_at b moved)))

-- one step
module _ {X : Type 0} (whole moved rest : List (ℕ × X)) (s : IsSplit whole moved rest) (k : ℕ) (x : X)
    (e : child_at k rest ≡ Some x) where
  pub split_absent : child_at k moved ≡ None
  split_absent = s.apart k x e

  pub split_fits : (width : ℕ) → length whole ≤ width → length moved < width
  split_fits width h = omega (arith, h, s.count, length-without_byte k x rest e)

  pub split_next : IsSplit whole (with_entry k x moved) (without_byte k rest)
  split_next = record {
    reads = λ b. s.reads b ∙ ⊎_elim
        (λ t. ap (λ n. either (child_at n moved) (child_at n rest)) (sym t.1)
        ∙ ap (λ o. either o (child_at k rest)) split_absent ∙ e
        ∙ sym (ap (λ o. either o (child_at b (without_byte k rest))) (child_at-with_entry k x moved b
        ∙ ap (λ c. cond c (Some x) (child_at b moved)) t.0)))
        (λ t. (λ i. either (sym (kept_moved b t.0) i) (sym (kept_rest b t.0) i)))
        (eqb_tells k b);
    apart = λ b y h. ⊎_elim
        (λ t. absurd (none_some (sym (child_at-without_byte k rest s.rest_ascends b
        ∙ ap (λ c. cond c None (child_at b rest)) t.0) ∙ h)))
        (λ t. kept_moved b t.0 ∙ s.apart b y (sym (kept_rest b t.0) ∙ h))
        (eqb_tells k b);
    count = omega (arith, s.count, length-without_byte k x rest e, length-with_entry k x moved split_absent);
    whole_ascends = s.whole_ascends;
    moved_ascends = with_entry-ascends k x moved s.moved_ascends;
    rest_ascends = without_byte-ascends k rest s.rest_ascends;
  }
    where
      kept_moved : (b : ℕ) → eqb k b ≡ false → child_at b (with_entry k x moved) ≡ child_at b moved
      kept_moved b t = child_at-with_entry k x moved b ∙ ap (λ c. cond c (Some x) (child_at b moved)) t

      kept_rest : (b : ℕ) → eqb k b ≡ false → child_at b (without_byte k rest) ≡ child_at b rest
      kept_rest b t = child_at-without_byte k rest s.rest_ascends b ∙ ap (λ c. cond c None (child_at b rest)) t
