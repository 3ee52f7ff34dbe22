use Rattle.std.proofs.Common.{◌≡◌, ◌<◌, ◌*◌, ◌||◌, rules, length, subst, sym, refl}
use Rattle.rart_parts.proofs.sets.Words.{changed_has}
use Rattle.rart_parts.proofs.utils.bitset.set.BitsetBitsetTrait.set.Goals as goal

pub returns : goal.returns
returns g c k h =
    let len : length c.args.self.now.words ≡ g.row.S = search rules in
    rw c.WIDTH-3.ensures (changed_has g.W.BitsetWord.WIDTH g.W.BitsetWord.number g.met.W.BitsetWord.wide (λ e b. e || b)
    (λ b. refl) c.args.self.now.words c.args.position k c.index-self-position.result c.with.result
    (subst (λ n. c.args.position < n * g.W.BitsetWord.WIDTH) (sym len) c.requires)
    (subst (λ n. k < n * g.W.BitsetWord.WIDTH) (sym len) h)
    (rw c.WIDTH.ensures at c.index-self-position.is)
    (rw (c.WIDTH-2.ensures, ← c.index-self-position.is) at c.with.ensures))
