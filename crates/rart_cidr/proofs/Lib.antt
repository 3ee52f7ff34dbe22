mod networks
mod routes
mod walks
