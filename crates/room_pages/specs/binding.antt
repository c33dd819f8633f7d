pub mod Apertures
