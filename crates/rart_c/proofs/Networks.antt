-- The bytes of an IPv6 address.
use Rattle.std.proofs.Common.{◌≡◌, ℕ, List, [], ◌∷◌, length, refl, arith, suc, ◌+◌, ◌*◌, ◌/◌, ◌%◌}
use Rattle.std.specs.Net.Addr.{octets_of, segments_of}
use Rattle.rart_keys.specs.KeyBytes.{AreBytes}

-- two bytes make a segment, which has them
pub octets-again : (o : List ℕ) → AreBytes o → length o % 2 ≡ 0 → octets_of (segments_of o) ≡ o
octets-again [] bytes even = refl
octets-again (a ∷ []) bytes even = absurd (omega (arith, even))
octets-again (a ∷ b ∷ o) bytes even =
    let high : (a * 256 + b) / 256 ≡ a = omega (arith, bytes 1) in
    let low : (a * 256 + b) % 256 ≡ b = omega (arith, bytes 1) in
    let more : octets_of (segments_of o) ≡ o = octets-again o (λ i. bytes (suc (suc i))) (omega (arith, even)) in cc
