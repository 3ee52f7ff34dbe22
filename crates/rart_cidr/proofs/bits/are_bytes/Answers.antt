use Rattle.rart_cidr.proofs.bits.are_bytes.Goals as goal

pub returns : goal.returns
returns c = λ k. (c.type_inv.octets k).fits
