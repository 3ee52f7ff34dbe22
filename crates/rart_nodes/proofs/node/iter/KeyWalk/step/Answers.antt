use Rattle.std.proofs.Common.{arith, length, ap, sym, ◌∙◌, ◌∷◌, List, ℕ}
use Rattle.std.specs.Option.{option_copied}
use Rattle.std.proofs.lemmas.List.{length-append}
use Rattle.rart_trie.specs.walks.Walk.{join_all, entries_ahead}
use Rattle.rart_nodes.specs.walks.PathParts.{byte_segments, kept_bytes}
use Rattle.rart_trie.proofs.edits.InsertLemmas.{fewer-within}
use Rattle.rart_nodes.proofs.walks.PathLemmas.{key-walk}
use Rattle.rart_nodes.proofs.walks.EntryLemmas.{joins-bytes, length-bytes}
use Rattle.rart_nodes.proofs.node.iter.KeyWalk.step.Goals as goal

pub invariant_of-self : goal.invariant_of-self
invariant_of-self g c
    = key-walk c.advance.ensures.path c.advance.ensures.reserved (omega (arith, c.advance.ensures.longest))
    c.self.invariant.within

pub joined-requires : goal.joined-requires
joined-requires g c =
    fewer-within _ _ _ (omega (
      arith,
      c.advance.ensures.path.short,
      length-bytes (kept_bytes c.advance.new.path),
      ap length c.parts.ensures,
      length-append c.parts.result.0.now c.parts.result.1.now,
      c.advance.ensures.longest,
    )) c.self.invariant.within

pub invariant_of-self-2 : goal.invariant_of-self-2
invariant_of-self-2 g c
    = key-walk c.advance.ensures.path c.advance.ensures.reserved (omega (arith, c.advance.ensures.longest))
    c.self.invariant.within

pub returns-clause-pairs : goal.returns-clause-pairs
returns-clause-pairs g c =
    let rest = join_all (entries_ahead byte_segments (byte_segments (kept_bytes c.advance.new.path))
    (option_copied c.advance.new.self.first) c.advance.new.self.levels.items) in
    sym c.self.view_is ∙ ap join_all c.in_ok-value.ensures.entries
    ∙ ap (λ (k : List ℕ). (k, c.in_ok-value.value.now) ∷ rest) (joins-bytes (kept_bytes c.advance.new.path)
    ∙ c.parts.ensures ∙ sym c.joined.ensures)
