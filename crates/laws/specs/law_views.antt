pub mod GoodViews
