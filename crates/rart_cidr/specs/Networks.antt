-- Networks as lists of bits, and when an address and a length make one.
use Rattle.std.specs.Prelude.{◌≡◌, ◌<◌, ◌≤◌, ℕ, List, length, take, Result, Ok, Err}
use Rattle.rart_cidr.specs.declared.cidr.error.CidrError.{CidrError}
use Rattle.rart_cidr.specs.declared.cidr.error.CidrError.TheVariants.{Length, HostBits}
use Rattle.rart_cidr.specs.declared.cidr.Cidr.{Cidr}
use Rattle.rart_cidr.specs.Bits.{AreClearAfter, network}

-- the bits of a network
abbrev pub cidr_bits : {N : ℕ} → Cidr N → List ℕ
cidr_bits net = network net.octets net.len

-- the network of the first n of an address's bits, if it has n and the others are zeros
abbrev pub IsNew : {N : Type 0} → (N → List ℕ) → List ℕ → ℕ → Result N CidrError → Type 0
IsNew view bits n (Ok net) = (n ≤ length bits) × AreClearAfter bits n × (view net ≡ take n bits)
IsNew view bits n (Err Length) = length bits < n
IsNew view bits n (Err HostBits) = (n ≤ length bits) × ¬ (AreClearAfter bits n)
