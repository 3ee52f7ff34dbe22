use Rattle.std.proofs.Common.{◌≡◌, ◌++◌, ℕ, List, [], ◌∷◌, arith, ap, inl, refl, length}
use Rattle.std.proofs.lemmas.List.{length-take}
use Rattle.rart_trie.specs.walks.Walk.{Level}
use Rattle.rart_trie.specs.tries.Trie.{Children}
use Rattle.rart_nodes.proofs.node.path_walk.ascending.extend_path.Goals as goal

pushed : {V : Type 0} (xs ys : List (Level V)) (cs ds : Children V) (n m : ℕ) → ys ≡ xs ++ (cs, n) ∷ [] → cs ≡ ds
    → n ≡ m → ys ≡ xs ++ (ds, m) ∷ []
pushed xs ys cs ds n m e f g = rw (← f, ← g) e

pub grow-requires : goal.grow-requires
grow-requires g c κs = (
  (refl, tt),
  omega (
    arith,
    c.requires.bytes,
    c.cut.ensures.capacity,
    ap length c.prefix.ensures,
    ap length c.cut.ensures.kept,
    length-take
        c.args.depth (g.T.Path.kept c.args.path.now),
  ),
)

pub returns-clause-levels : goal.returns-clause-levels
returns-clause-levels g c
    = inl (
      pushed _ _ _ _ _ _ c.push_reserved.ensures.items c.branches.ensures c.mark.ensures,
      λ e. absurd (cc (c.has_no_children.ensures.1 e, c.if-has_no_children.false)),
    )
