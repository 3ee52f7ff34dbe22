use Rattle.std.proofs.Common.{ap, ◌∙◌, refl}
use Rattle.rart_keys.specs.SortedMap.{lookup, put}
use Rattle.rart_uses.proofs.Outcomes.{on_some_weaker}
use Rattle.rart_uses.proofs.cursor.CursorMut.value_mut.Goals as goal

pub returns : goal.returns
returns g c =
    let pairs = c.args.self.now.tree.now.pairs in
    let same = c.new_from_slice-key.ensures ∙ c.as_ref.ensures in (
      (
        refl,
        λ w. (
          refl,
          refl,
          on_some_weaker c.get_mut.result (λ h. (h.1, rw c.in-Some.is (h.0 ∙ ap (λ k. put k w pairs) same)))
              (c.get_mut.follows.holds w),
        ),
        (refl, refl, c.get_mut.follows.holds-at-none),
      ),
      record {
        writes_back = tt;
        value = rw c.in-Some.is (c.get_mut.ensures.value ∙ ap (λ k. lookup k pairs) same);
      },
    )
