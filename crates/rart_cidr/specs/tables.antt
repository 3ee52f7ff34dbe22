pub mod IpLoans
pub mod IpNets
pub mod ManyEdits
pub mod NetworkLoans
pub mod RouteCalls
pub mod TableClones
pub mod TwoTables
