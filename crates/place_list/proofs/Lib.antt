pub mod PlaceLaws
pub mod CursorLaws
pub mod Stretches
pub mod HoleLaws
