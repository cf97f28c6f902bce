-- What a search of places finds.
pub mod Search
