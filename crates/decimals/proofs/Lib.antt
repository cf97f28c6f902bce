-- What is proved of a decimal: rounding to the nearest, a coordinate's ten-thousandths by its fields, that they are the nearest,
-- and the text's length.
pub mod Rounding
pub mod Value
pub mod NearestDecimal
pub mod Texts
pub mod Trials
