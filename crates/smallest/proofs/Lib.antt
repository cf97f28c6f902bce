-- What is claimed of the smallest ring still refused (Entry.is_smallest).
pub mod Entry
