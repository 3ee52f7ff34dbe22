use Rattle.rart_cidr.proofs.network_table.NetworkTable.from_pairs.Goals as goal

pub returns-in-Err-clause-refused : goal.returns-in-Err-clause-refused
returns-in-Err-clause-refused g c = let read = c.in-Err.ensures.refused in
    (read.0, read.1, read.2, read.3, read.4, (c.extend.new.self, rw c.new-table.ensures at read.5))
