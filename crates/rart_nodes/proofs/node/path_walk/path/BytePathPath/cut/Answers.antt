use Rattle.std.proofs.Common.{◌≡◌, ◌+◌, ◌-◌, ◌≤◌, ◌∙◌, ◌∷◌, ◌++◌, [], ℕ, List, arith, ap, sym, length, take}
use Rattle.std.proofs.Math.Seq.{take-append-add}
use Rattle.std.proofs.lemmas.List.{append-nil, length-take-le, take-append-le, take-map, take-take}
use Rattle.rart_nodes.specs.walks.PathParts.{byte_segments, kept_bytes}
use Rattle.rart_nodes.specs.walks.KeyBuffers.{bytes_in}
use Rattle.rart_nodes.proofs.node.path_walk.path.BytePathPath.cut.Goals as goal

-- a cut of n bytes and more after them, among the first n
cut-front : (mark n : ℕ) (bytes last : List ℕ) → mark ≤ n → n ≤ length bytes
    → take mark bytes ++ [] ≡ take mark (take n bytes ++ last)
cut-front mark n bytes last inside fits = append-nil (take mark bytes) ∙ sym (take-take mark n bytes inside)
    ∙ sym (take-append-le mark (take n bytes) last (omega (arith, inside, length-take-le n bytes fits)))

-- or among those after them
cut-behind : (mark n : ℕ) (bytes last : List ℕ) → n ≤ mark → n ≤ length bytes
    → take n bytes ++ take (mark - n) last ≡ take mark (take n bytes ++ last)
cut-behind mark n bytes last past fits = sym (take-append-add (take n bytes) last (mark - n))
    ∙ ap (λ k. take k (take n bytes ++ last)) (omega (arith, past, length-take-le n bytes fits))

pub returns-then-mark-self-clause-kept : goal.returns-then-mark-self-clause-kept
returns-then-mark-self-clause-kept g c =
    ap byte_segments (cut-front c.args.mark c.args.self.now.len (bytes_in c.args.self.now.buffer)
    c.args.self.now.last.now (omega arith) (omega (arith, c.args.self.now.in_range)))
    ∙ sym (take-map (λ b. b ∷ []) c.args.mark (kept_bytes c.args.self.now))

pub returns-then-mark-self-2-clause-kept : goal.returns-then-mark-self-2-clause-kept
returns-then-mark-self-2-clause-kept g c =
    ap byte_segments (cut-behind c.args.mark c.args.self.now.len (bytes_in c.args.self.now.buffer)
    c.args.self.now.last.now (omega arith) (omega (arith, c.args.self.now.in_range)))
    ∙ sym (take-map (λ b. b ∷ []) c.args.mark (kept_bytes c.args.self.now))
