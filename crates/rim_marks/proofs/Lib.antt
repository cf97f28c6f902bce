-- Rim marks cleared and set, place by place.
pub mod Marking
