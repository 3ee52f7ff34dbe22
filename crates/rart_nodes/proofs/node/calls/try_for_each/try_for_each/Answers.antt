use Rattle.std.proofs.Common.{arith, rules, of_calls, ◌≡◌, ◌+◌, List, sym, ap, subst, refl, Ok, Err}
use Rattle.std.specs.Fn.{CalledAt}
use Rattle.rart_nodes.specs.declared.node.control.VisitControl.TheVariants.{Continue}
use Rattle.rart_trie.specs.walks.Walk.{SegmentList, entry_values}
use Rattle.rart_nodes.specs.walks.Tried.{EndsAfter, EndsAs}
use Rattle.rart_nodes.proofs.walks.CallLemmas.{always-after-tries, equal-counts}
use Rattle.rart_trie.proofs.edits.CallbackLemmas.{can-first, can-rest}
use Rattle.rart_nodes.proofs.node.calls.try_for_each.try_for_each.Goals as goal

pub f-requires : goal.f-requires
f-requires g c = can-first _ _ _ _ _ _ (ap entry_values c.in-Some.ensures.entries) c.loop-value.invariant.callable _
    refl

pub loop-value-init : goal.loop-value-init
loop-value-init g c = record {
  callable = c.requires.callable;
  path = c.requires.path;
  reserved = c.requires.fits;
  ends = λ r last h. h;
  low = λ h w. w;
  counted = (0, ((λ n m r last e h. equal-counts g.F.FnMut _ _ n m r last (omega (arith, e)) h), omega arith));
  visits = omega arith;
}

pub loop-value-preserved : goal.loop-value-preserved
loop-value-preserved g c =
    let e = c.in-Some.ensures.entries in
    let k = c.loop-value.invariant.counted in
    let on : c.f.result ≡ Ok Continue = rw (c.in-Ok-Continue.is, c.in-Ok-Continue.field-0-is) refl in
    let v : CalledAt g.F.FnMut c.loop-value.f c.in-Some.value.now (Ok Continue) c.f.new.self
    = record { shown = c.in-Some.value; shows = refl; called = rw (← on) (search (rules, of_calls)) } in
    record {
      callable = can-rest _ _ _ _ _ _ _ (ap entry_values e) v c.loop-value.invariant.callable;
      path = c.in-Some.ensures.path;
      reserved = search rules;
      ends = λ r last h. c.loop-value.invariant.ends r last
          (subst (λ (x : List (SegmentList × g.row.V.Denot)). EndsAs g.F.FnMut c.loop-value.f (entry_values x) r last)
          (sym e) (
            c.in-Some.value,
            (
              c.f.result,
              (
                c.f.new.self,
                (refl, (search (rules, of_calls), rw (c.in-Ok-Continue.is, c.in-Ok-Continue.field-0-is) h)),
              ),
            ),
          ));
      low = λ h w. c.in-Some.ensures.amortized.low h (c.loop-value.invariant.low h w);
      counted = (
        k.0 + 1,
        (
          (λ n m r last i h. k.1.0 (1 + n) m r last (omega (arith, i))
              (subst (λ (x : List (SegmentList × g.row.V.Denot)). EndsAfter g.F.FnMut c.loop-value.f (entry_values x)
              (1 + n)
              r last) (sym e) (
                c.in-Some.value,
                (
                  c.f.result,
                  (
                    c.f.new.self,
                    (
                      refl,
                      (
                        search (rules, of_calls),
                        rw (c.in-Ok-Continue.is, c.in-Ok-Continue.field-0-is) (n, (refl, h)),
                      ),
                    ),
                  ),
                ),
              ))),
          omega (arith, k.1.1, c.in-Some.ensures.amortized.next),
        ),
      );
      visits = omega (arith, c.loop-value.invariant.visits, c.in-Some.ensures.visits);
    }

pub returns-in-Ok-Stop-clause-calls : goal.returns-in-Ok-Stop-clause-calls
returns-in-Ok-Stop-clause-calls g c =
    let e = c.in-Some.ensures.entries in
    c.loop-value.invariant.ends _ _ (subst (λ (x : List (SegmentList × g.row.V.Denot)). EndsAs g.F.FnMut c.loop-value.f
    (entry_values x) (Ok tt) c.f.new.self) (sym e) (
      c.in-Some.value,
      (
        c.f.result,
        (
          c.f.new.self,
          (refl, (search (rules, of_calls), rw (c.in-Ok-Stop.is, c.in-Ok-Stop.field-0-is) (refl, refl))),
        ),
      ),
    ))

pub returns-in-Err-clause-calls : goal.returns-in-Err-clause-calls
returns-in-Err-clause-calls g c =
    let e = c.in-Some.ensures.entries in
    c.loop-value.invariant.ends _ _ (subst (λ (x : List (SegmentList × g.row.V.Denot)). EndsAs g.F.FnMut c.loop-value.f
    (entry_values x) (Err c.in-Err.error) c.f.new.self) (sym e)
    (c.in-Some.value, (c.f.result, (c.f.new.self, (refl, (search (rules, of_calls), rw c.in-Err.is (refl, refl)))))))

pub returns-in-Ok-Stop-clause-stays_callable : goal.returns-in-Ok-Stop-clause-stays_callable
returns-in-Ok-Stop-clause-stays_callable g c = always-after-tries g.F.FnMut _ _ _ _
    (returns-in-Ok-Stop-clause-calls g c)

pub returns-in-Err-clause-stays_callable : goal.returns-in-Err-clause-stays_callable
returns-in-Err-clause-stays_callable g c = always-after-tries g.F.FnMut _ _ _ _ (returns-in-Err-clause-calls g c)

pub returns-clause-calls : goal.returns-clause-calls
returns-clause-calls g c =
    let e = ap entry_values c.in_default.ensures.entries.0 in
    c.loop-value.invariant.ends _ _ (subst (λ (x : List g.row.V.Denot). EndsAs g.F.FnMut c.loop-value.f x (Ok tt)
    c.loop-value.f) (sym e) (refl, refl))

pub returns-clause-stays_callable : goal.returns-clause-stays_callable
returns-clause-stays_callable g c = always-after-tries g.F.FnMut _ _ _ _ (returns-clause-calls g c)

pub returns-in-Ok-Stop-clause-by_calls : goal.returns-in-Ok-Stop-clause-by_calls
returns-in-Ok-Stop-clause-by_calls g c = λ h w.
    let e = c.in-Some.ensures.entries in
    let k = c.loop-value.invariant.counted in (
      k.0 + 1,
      (
        k.1.0 1 (k.0 + 1) _ _ refl (subst (λ (x : List (SegmentList × g.row.V.Denot)). EndsAfter g.F.FnMut
            c.loop-value.f (entry_values x) 1 (Ok tt) c.f.new.self) (sym e) (
              c.in-Some.value,
              (
                c.f.result,
                (
                  c.f.new.self,
                  (
                    refl,
                    (
                      search (rules, of_calls),
                      rw (c.in-Ok-Stop.is, c.in-Ok-Stop.field-0-is)
                          (refl, (refl, refl)),
                    ),
                  ),
                ),
              ),
            )),
        omega (arith, k.1.1, c.in-Some.ensures.amortized.last h (c.loop-value.invariant.low h w)),
      ),
    )

pub returns-in-Err-clause-by_calls : goal.returns-in-Err-clause-by_calls
returns-in-Err-clause-by_calls g c = λ h w.
    let e = c.in-Some.ensures.entries in
    let k = c.loop-value.invariant.counted in (
      k.0 + 1,
      (
        k.1.0 1 (k.0 + 1) _ _ refl (subst (λ (x : List (SegmentList × g.row.V.Denot)). EndsAfter g.F.FnMut
            c.loop-value.f (entry_values x) 1 (Err c.in-Err.error) c.f.new.self) (sym e) (
              c.in-Some.value,
              (
                c.f.result,
                (c.f.new.self, (refl, (search (rules, of_calls), rw c.in-Err.is (refl, (refl, refl))))),
              ),
            )),
        omega (arith, k.1.1, c.in-Some.ensures.amortized.last h (c.loop-value.invariant.low h w)),
      ),
    )

pub returns-clause-by_calls : goal.returns-clause-by_calls
returns-clause-by_calls g c = λ h w.
    let e = ap entry_values c.in_default.ensures.entries.0 in
    let k = c.loop-value.invariant.counted in (
      k.0,
      (
        k.1.0 0 k.0 _ _ (omega arith) (subst (λ (x : List g.row.V.Denot). EndsAfter g.F.FnMut c.loop-value.f x 0 (Ok tt)
            c.loop-value.f) (sym e) (refl, (refl, refl))),
        omega (arith, k.1.1, c.in_default.ensures.amortized),
      ),
    )
