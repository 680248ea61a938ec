-- the places of line feeds
pub mod Places
-- examples of places
pub mod Placed
