mod Lists
mod Drawing
mod Suiting
mod Turning
mod Adding
