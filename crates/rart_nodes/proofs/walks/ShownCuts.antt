-- One call with a view of segments that are the cut of a pair's key.
use Rattle.std.proofs.Common.{◌≡◌, ℕ, true, List, Option, Some, None, refl, ◌∙◌}
use Rattle.std.specs.Borrow.{Bor}
use Rattle.std.specs.Fn.{Mut, Once, Called}
use Rattle.rart_nodes.specs.declared.node.path_walk.path.SegmentPath.{SegmentPath}
use Rattle.rart_nodes.specs.declared.node.view.LendingKeyView.{LendingKeyView}
use Rattle.rart_nodes.specs.walks.PathParts.{lent_segments}
use Rattle.rart_nodes.specs.walks.Viewed.{IsCutOf, SeesFound, ShowsFound}

module _ {F V : Type 0} (s : List (List ℕ)) (t : SegmentPath) (x : Bor V) (key : LendingKeyView) where
  pub shows-cut : (g : Mut F (LendingKeyView × (Bor V × Unit {0})) (Unit {0})) (f f' : F) (found : Option (List ℕ × V))
      → IsCutOf s found (Some (t, x))
      → lent_segments key.segments.now ≡ lent_segments t.segments.items → Called g f (key, (x, tt)) tt f'
      → ShowsFound g f s found f' true
  shows-cut g f f' None h k called = absurd (cc)
  shows-cut g f f' (Some e) h k called = (
    refl,
    record {
      key = key;
      shown = x;
      key_is = k ∙ h.0;
      shows = h.1;
      called
          = called;
    },
  )

  pub sees-cut : (g : Once F (LendingKeyView × (Bor V × Unit {0})) (Unit {0})) (f : F) (found : Option (List ℕ × V))
      → IsCutOf s found (Some (t, x))
      → lent_segments key.segments.now ≡ lent_segments t.segments.items → g.post f (key, (x, tt)) tt
      → SeesFound g f s found true
  sees-cut g f None h k called = absurd (cc)
  sees-cut g f (Some e) h k called = (
    refl,
    record {
      key = key;
      shown = x;
      key_is = k ∙ h.0;
      shows = h.1;
      called
          = called;
    },
  )
