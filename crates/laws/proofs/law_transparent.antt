pub mod Idles
pub mod Quiets
pub mod Pages
pub mod Carries
pub mod Acts
pub mod Workers
pub mod Steps
pub mod First
pub mod Law
pub mod Ways
mod Worked
pub mod Carried
pub mod Chosen
pub mod Proper
pub mod PagesLaw
pub mod Short
pub mod PacketPlacesLaw
pub mod Spared
