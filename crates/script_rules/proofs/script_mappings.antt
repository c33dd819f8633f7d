pub mod ThreadMappingLists
