-- What a counter of visits is to its readers.
use Rattle.std.specs.Prelude.{ℕ}
use Rattle.rart_trie.specs.declared.count.Visits.{Visits}

-- how many visits it has counted
abbrev pub visit_count : Visits → ℕ
visit_count v = v.count
