pub mod ContentLaws
pub mod FitLaws
pub mod AlongLaws
