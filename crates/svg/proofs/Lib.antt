-- What is proved of forms and places: `sheet-decimals` of Places is the claim; the others are the laws that the function proofs cite.
pub mod Forms
pub mod Places
