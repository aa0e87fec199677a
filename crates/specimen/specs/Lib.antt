pub mod Specimen
