pub mod TwoLists
