pub mod AddressLaws
pub mod MentionLaws
pub mod FewMentions
