-- Laws for the code of this crate.
pub mod LeadLines
pub mod Laying
