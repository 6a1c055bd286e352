mod Again
mod Copying
mod Keeping
mod Paging
mod Reaching
mod Replaying
mod Shelves
mod Walks
