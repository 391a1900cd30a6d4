pub mod Facets
pub mod Laying
pub mod Firsts
pub mod Sweeping
