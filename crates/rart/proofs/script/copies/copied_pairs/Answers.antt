use Rattle.std.proofs.Common.{rules, ◌≡◌, ◌<◌, ◌∙◌, ℕ, List, ◌∷◌, ◌++◌, [], ap, arith, length, map, refl, sym}
use Rattle.std.proofs.lemmas.Iterator.Consumers.{YieldsList-end, YieldsList-turn}
use Rattle.std.proofs.lemmas.List.{length-map, map-append}
use Rattle.std.specs.Iterator.{AlwaysYields}
use Rattle.rart.proofs.script.copies.copied_pairs.Goals as goal

-- one more is copied, which reads as the item that came
one-more : {A B C : Type 0} (f : A → C) (v : B → C) (before after : List A) (copy : A) (yielded : List B) (item : B)
    → after ≡ before ++ copy ∷ [] → f copy ≡ v item → map f before ≡ map v yielded
    → map f after ≡ map v (yielded ++ item ∷ [])
one-more f v before after copy yielded item pushed same so_far = rw (
  pushed,
  map-append f before (copy ∷ []),
  map-append v yielded (item ∷ []),
  so_far,
  same,
)

as-many : {A B C : Type 0} (f : A → C) (v : B → C) (copied : List A) (yielded : List B)
    → map f copied ≡ map v yielded → length copied ≡ length yielded
as-many f v copied yielded same = sym (length-map copied f) ∙ ap length same ∙ length-map yielded v

pub loop-key-preserved : goal.loop-key-preserved
loop-key-preserved g c = record {
  can = search rules;
  finite = search rules;
  capacity = search rules;
  so_far = one-more _ _ _ _ _ c.loop-key.yielded (c.in-Some.key, c.in-Some.value) c.in-Ok.ensures.items refl
      c.loop-key.invariant.so_far;
}

pub returns-in_default : goal.returns-in_default
returns-in_default g c =
    let start = c.into_iter-key-iterator.ensures.into_iter_gives in
    let more : (all : List (List ℕ × g.row.V.Denot))
    → AlwaysYields g.I.Iterator.next_gives {B = List ℕ × g.row.V.Denot} (λ p. (g.K.KeyTrait.bytes p.0, p.1.now))
    c.args.walk all → length c.loop-key.yielded < length all
    = λ all yields. (YieldsList-turn {steps = g.I.Iterator.next_gives} {s = c.into_iter-key-iterator.result}
    (record { runs = rw (← start) at yields }) c.loop-key.yielded _ c.loop-key.yielded_by _ c.next.new.self
    (c.in-Some.key, c.in-Some.value) c.in-Some.is c.next.ensures.steps).0 in
    record {
      pairs = λ all yields. tt;
      memory = λ all yields. (refl, λ none. omega (arith, more all yields, ap length none));
      capacity = λ all yields. omega (
        arith,
        more all yields,
        c.loop-key.invariant.capacity,
        c.in_default.ensures.full,
        c.loop-key.pairs.ok.0,
        as-many _ _ c.loop-key.pairs.items c.loop-key.yielded c.loop-key.invariant.so_far,
      );
    }

pub returns-clause-pairs : goal.returns-clause-pairs
returns-clause-pairs g c all yields =
    let start = c.into_iter-key-iterator.ensures.into_iter_gives in
    let end = YieldsList-end {steps = g.I.Iterator.next_gives} {s = c.into_iter-key-iterator.result}
    (record { runs = rw (← start) at yields }) c.loop-key.yielded _ c.loop-key.yielded_by _ c.next.new.self c.in-None.is
    c.next.ensures.steps in
    c.loop-key.invariant.so_far ∙ end.0
