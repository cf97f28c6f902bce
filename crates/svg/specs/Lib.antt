-- Places of a picture as whole numbers, and forms: texts in which a slot stands for a number.
pub mod Place
pub mod Form
