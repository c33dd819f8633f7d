pub mod FirstRepresented
