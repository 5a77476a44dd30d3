pub mod Changes
pub mod Laying
